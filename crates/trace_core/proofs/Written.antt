-- The bytes that a sink took over several calls.
use Rattle.std.proofs.Common.{ℕ, ◌+◌, List, [], ◌++◌, Option, None, Some, Result, Ok, Err, inl, inr}
use Rattle.std.proofs.Common.{take, length, refl, sym, ap, ◌∙◌, arith, append_assoc, length-append}
use Rattle.std.proofs.Common.{subst}
use Rattle.std.proofs.Math.Seq.{take-append-add, take-length}
use Rattle.std.proofs.KnownBytes.{Appends-trans, Appends-nil}
use Rattle.std.proofs.lemmas.List.{take-append-le}
use Rattle.std.specs.Io.KnownBytes.{Appends, Keeps}
use Rattle.trace_core.specs.Device.{SinkView, Takes, FlushesSink, StaysOrUnreported, WritesPrefix}
use Rattle.trace_core.specs.Device.{TookAll, FlushesAfter, FlushesAtMostOnce, one_more, Wrote}
use Rattle.trace_core.specs.Device.{WrotePart, WroteLast, WroteLastPart, WritesLast}

-- nothing was written
pub Wrote-none : (v : SinkView) → Wrote v v []
Wrote-none v = record { took = Appends-nil v.written; unfailed = refl; unflushed = refl }

-- what was taken before, and then what a write took
pub Wrote-taken : {E : Type 0} {a b c : SinkView} {n : ℕ} {front from : List ℕ} → Wrote a b front →
    Takes {E = E} b c (Ok n) from
    → Wrote a c (front ++ take n from)
Wrote-taken {b = b} wrote more = record {
  took = Appends-trans _ b.written _ _ _ wrote.took more.bytes;
  unfailed = more.counted ∙ wrote.unfailed;
  unflushed = more.unflushed ∙ wrote.unflushed;
}

-- what was written before, and then a first part of a piece
prefix_after : (a b c : Option (List ℕ)) (front piece : List ℕ) → Appends a b front →
    WritesPrefix b c piece → WritesPrefix a c (front ++ piece)
prefix_after None b c front piece wrote part = tt
prefix_after (Some x) None c front piece wrote part = absurd wrote
prefix_after (Some x) (Some y) None front piece wrote part = tt
prefix_after (Some x) (Some y) (Some z) front piece wrote part = (
  length front + part.0,
  omega (arith, part.1, length-append front piece),
  part.2 ∙ ap (λ l. l ++ take part.0 piece) wrote ∙ append_assoc x front (take part.0 piece)
      ∙ ap (λ l. x ++ l) (sym (take-append-add front piece part.0)),
)

took_after : (a b c : Option (List ℕ)) (front piece : List ℕ) → Appends a b front →
    TookAll b c piece → TookAll a c (front ++ piece)
took_after None b c front piece wrote all = tt
took_after (Some x) None c front piece wrote all = absurd wrote
took_after (Some x) (Some y) None front piece wrote all = tt
took_after (Some x) (Some y) (Some z) front piece wrote all = all ∙ ap (λ l. l ++ piece) wrote ∙
    append_assoc x front piece

flushes_after : {a b : SinkView} {front : List ℕ} (c : SinkView) (piece : List ℕ) →
    Wrote a b front → FlushesAfter piece b c
    → FlushesAfter (front ++ piece) a c
flushes_after c piece wrote (inl unflushed) = inl (unflushed ∙ wrote.unflushed)
flushes_after {a} {b} {front} c piece wrote (inr all) =
    inr (took_after a.written b.written c.written front piece wrote.took all)

-- what was written before, and then a piece
pub Wrote-more : {a b c : SinkView} {front piece : List ℕ} → Wrote a b front → Wrote b c piece →
    Wrote a c (front ++ piece)
Wrote-more {b = b} wrote more = record {
  took = Appends-trans _ b.written _ _ _ wrote.took more.took;
  unfailed = more.unfailed ∙ wrote.unfailed;
  unflushed = more.unflushed ∙ wrote.unflushed;
}

-- what was written before, and then a part of a piece
pub WrotePart-after : {a b c : SinkView} {front piece : List ℕ} → Wrote a b front →
    WrotePart b c piece → WrotePart a c (front ++ piece)
WrotePart-after {b = b} wrote more = record {
  part = prefix_after _ b.written _ _ _ wrote.took more.part;
  failed = more.failed ∙ ap one_more wrote.unfailed;
  unflushed = more.unflushed ∙ wrote.unflushed;
}

-- what was written before, and then the last piece
pub WroteLast-after : {a b c : SinkView} {front piece : List ℕ} → Wrote a b front →
    WroteLast b c piece → WroteLast a c (front ++ piece)
WroteLast-after {b = b} wrote more = record {
  took = Appends-trans _ b.written _ _ _ wrote.took more.took;
  unfailed = more.unfailed ∙ wrote.unfailed;
  flushed = more.flushed ∙ ap one_more wrote.unflushed;
}

-- what was written before, and then a part of the last piece
pub WroteLastPart-after : {a b c : SinkView} {front piece : List ℕ} → Wrote a b front →
    WroteLastPart b c piece → WroteLastPart a c (front ++ piece)
WroteLastPart-after {b = b} {c = c} wrote more = record {
  part = prefix_after _ b.written _ _ _ wrote.took more.part;
  failed = more.failed ∙ ap one_more wrote.unfailed;
  flushes = subst (λ n. FlushesAtMostOnce n c.flushes) wrote.unflushed more.flushes;
  last = flushes_after c _ wrote more.last;
}

-- a part of the first bytes is a part of all
pub part_of_first : (a b : Option (List ℕ)) (front more : List ℕ) → WritesPrefix a b front →
    WritesPrefix a b (front ++ more)
part_of_first None b front more part = tt
part_of_first (Some x) None front more part = tt
part_of_first (Some x) (Some y) front more part = (
  part.0,
  omega (arith, part.1, length-append front more),
  part.2 ∙ ap (λ l. x ++ l) (sym (take-append-le part.0 front more part.1)),
)

pub WrotePart-more : {a b : SinkView} {front : List ℕ} (more : List ℕ) → WrotePart a b front →
    WrotePart a b (front ++ more)
WrotePart-more more wrote = record {
  part = part_of_first _ _ _ more wrote.part;
  failed =
      wrote.failed;
  unflushed = wrote.unflushed;
}

-- a sink that failed before the flush
pub WroteLastPart-unflushed : {a b : SinkView} {bytes : List ℕ} → WrotePart a b bytes →
    WroteLastPart a b bytes
WroteLastPart-unflushed wrote = record {
  part = wrote.part;
  failed = wrote.failed;
  flushes =
      inl wrote.unflushed;
  last = inl wrote.unflushed;
}

-- all was written, and then flushed
pub WroteLast-flushed : {T E : Type 0} {x : T} {a b c : SinkView} {bytes : List ℕ} →
    Wrote a b bytes → FlushesSink {T = T} {E = E} b c (Ok x)
    → WroteLast a c bytes
WroteLast-flushed {a = a} {b = b} {c = c} wrote flushed = record {
  took = kept a.written b.written c.written _ wrote.took flushed.bytes;
  unfailed = flushed.counted ∙ wrote.unfailed;
  flushed = flushed.flushed ∙ ap one_more wrote.unflushed;
}
  where
    kept : (a b c : Option (List ℕ)) (bytes : List ℕ) → Appends a b bytes → Keeps b c →
        Appends a c bytes
    kept None b c bytes wrote keeps = tt
    kept (Some x) None c bytes wrote keeps = absurd wrote
    kept (Some x) (Some y) None bytes wrote keeps = absurd keeps
    kept (Some x) (Some y) (Some z) bytes wrote keeps = cc

-- a sink that took all, and no more, took some part
part_of_all : (a c : Option (List ℕ)) (bytes : List ℕ) → TookAll a c bytes → WritesPrefix a c bytes
part_of_all None c bytes took = tt
part_of_all (Some x) None bytes took = tt
part_of_all (Some x) (Some y) bytes took =
    (length bytes, omega arith, took ∙ ap (λ l. x ++ l) (sym (take-length bytes)))

-- all was written, and then the flush failed
pub WroteLastPart-flush : {T E : Type 0} {e : E} {a b c : SinkView} {bytes : List ℕ} →
    Wrote a b bytes → FlushesSink {T = T} {E = E} b c (Err e)
    → WroteLastPart a c bytes
WroteLastPart-flush {a = a} {b = b} {c = c} {bytes = bytes} wrote flushed =
    let all : TookAll a.written c.written bytes =
    stays a.written b.written c.written wrote.took flushed.bytes in record {
      part = part_of_all a.written c.written bytes all;
      failed = flushed.counted ∙ ap one_more wrote.unfailed;
      flushes = inr (flushed.flushed ∙ ap one_more wrote.unflushed);
      last = inr all;
    }
  where
    stays : (a b c : Option (List ℕ)) → Appends a b bytes → StaysOrUnreported b c →
        TookAll a c bytes
    stays None b c wrote still = tt
    stays (Some x) None c wrote still = absurd wrote
    stays (Some x) (Some y) None wrote still = tt
    stays (Some x) (Some y) (Some z) wrote still = cc

-- all was written, and then flushed or not
pub WritesLast-flushes : {T E : Type 0} {a b c : SinkView} {bytes : List ℕ} (r : Result T E) →
    Wrote a b bytes → FlushesSink b c r
    → WritesLast a c r bytes
WritesLast-flushes (Ok x) wrote flushed = WroteLast-flushed wrote flushed
WritesLast-flushes (Err e) wrote flushed = WroteLastPart-flush wrote flushed
