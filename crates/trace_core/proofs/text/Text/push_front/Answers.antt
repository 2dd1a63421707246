-- Of the bytes that are stored behind a text some become part of it.
use Rattle.std.proofs.Common.{◌≡◌, ◌+◌, ◌≤◌, List, ℕ, ◌++◌, length, take, drop, ap, sym, ◌∙◌, arith}
use Rattle.std.proofs.Common.{length-take-le}
use Rattle.std.proofs.Math.Seq.{take-append-add}
use Rattle.std.proofs.lemmas.List.{take-append-le}
use Rattle.std.proofs.lemmas.Simd.{put_chunk_is}
use Rattle.std.specs.Simd.Lanes.{put_chunk}
use Rattle.trace_core.proofs.text.Text.push_front.Goals as goal

stored : (xs ys : List ℕ) (len count : ℕ) → count ≤ length ys → len + length ys ≤ length xs →
    take (len + count) (put_chunk len xs ys) ≡ take len xs ++ take count ys
stored xs ys len count within room =
    let front : length (take len xs) ≡ len = length-take-le len xs (omega arith) in
    let rest = ys ++ drop (length ys) (drop len xs) in
    let sum : len + count ≡ length (take len xs) + count = omega (arith, front) in
    ap (take (len + count)) (put_chunk_is len xs ys room) ∙
    ap (λ n. take n (take len xs ++ rest)) sum ∙
    take-append-add (take len xs) rest count ∙
    ap (λ l. take len xs ++ l) (take-append-le count ys (drop (length ys) (drop len xs)) within)

pub returns-clause-value : goal.returns-clause-value
returns-clause-value g c =
    let xs = c.self.inside.bytes in
    let len = c.self.inside.len in
    let is : take len xs ≡ c.args.self.now = c.self.view_is in
    let within : len ≤ length xs = omega (arith, c.self.invariant, c.self.told) in
    let long : length c.args.self.now ≡ len = ap length (sym is) ∙ length-take-le len xs within in
    stored xs c.args.bytes len c.args.count (omega (arith, c.requires.lanes, c.requires.within))
    (omega (arith, long, c.requires.lanes, c.requires.room, c.self.told)) ∙
    ap (λ l. l ++ take c.args.count c.args.bytes) is
