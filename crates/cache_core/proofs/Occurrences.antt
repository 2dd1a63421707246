-- The window and the occurrences of a list with one more event, and over a window that is carried
-- along.
use Rattle.std.proofs.Common.{◌≡◌, ℕ, List, [], ◌∷◌, ◌++◌, refl, sym, ap, ◌+◌, ◌∙◌, append-nil}
use Rattle.std.proofs.Common.{append_assoc, one-add}
use Rattle.std.specs.Prelude.{filter_map}
use Rattle.std.specs.List.{before_first, sum_by}
use Rattle.std.proofs.lemmas.List.{reverse-append}
use Rattle.std.proofs.lemmas.List.Sums.{sum_by_push}
use Rattle.trace_core.specs.declared.events.Ref.{Ref}
use Rattle.trace_core.specs.declared.events.Event.{Event}
use Rattle.trace_core.specs.declared.events.Event.TheVariants as event
use Rattle.cache_core.specs.Geometry.{GeometryValue, block_of}
use Rattle.cache_core.specs.LruLaws.{occurrence_after}
use Rattle.cache_core.specs.Windows.{window, window_after, occurrences, occurrences_after}
use Rattle.cache_core.specs.Windows.{Occurrence, block_in, is_flush}

pub window-push : (g : GeometryValue) (es : List Event) (e : Event) →
    window g (es ++ e ∷ []) ≡ window_after g (window g es) e
unfolding window
window-push g es (event.Reference r) =
    ap (λ rs. filter_map (block_in g) (before_first is_flush rs))
    (reverse-append es (event.Reference r ∷ [])) ∙ rw one-add refl
window-push g es event.Flush = ap (λ rs. filter_map (block_in g) (before_first is_flush rs))
    (reverse-append es (event.Flush ∷ []))

pub window-nil : (g : GeometryValue) → window g [] ≡ []
unfolding window
window-nil g = refl

-- the occurrences after a window
unfoldable pub occurrences_from : GeometryValue → List ℕ → List Event → List Occurrence
occurrences_from g w [] = []
occurrences_from g w (event.Reference r ∷ es) = record {
  block = block_of g r.addr;
  window =
      w;
} ∷ occurrences_from g (block_of g r.addr ∷ w) es
occurrences_from g w (event.Flush ∷ es) = occurrences_from g [] es

pub occurrences_after-from : (g : GeometryValue) (before es : List Event) →
    occurrences_after g before es ≡ occurrences_from g (window g before) es
unfolding occurrences_after occurrences_from
occurrences_after-from g before [] = refl
occurrences_after-from g before (event.Reference r ∷ es) =
    cc (
      occurrences_after-from g (before ++ event.Reference r ∷ []) es,
      window-push g before (event.Reference r),
    )
occurrences_after-from g before (event.Flush ∷ es) =
    cc (occurrences_after-from g (before ++ event.Flush ∷ []) es, window-push g before event.Flush)

-- the occurrences in a list are those after an empty window
pub occurrences-from : (g : GeometryValue) (es : List Event) →
    occurrences g es ≡ occurrences_from g [] es
occurrences-from g es = occurrences_after-from g [] es ∙ ap (λ w. occurrences_from g w es)
    (window-nil g)

-- a list and then another
pub occurrences_after-append : (g : GeometryValue) (before es more : List Event) →
    occurrences_after g before (es ++ more) ≡ occurrences_after g before es ++
    occurrences_after g (before ++ es) more
unfolding occurrences_after
occurrences_after-append g before [] more = ap (λ b. occurrences_after g b more)
    (sym (append-nil before))
occurrences_after-append g before (event.Reference r ∷ es) more =
    ap (λ ps. record { block = block_of g r.addr; window = window g before } ∷ ps)
    (occurrences_after-append g (before ++ event.Reference r ∷ []) es more
    ∙ ap (λ b. occurrences_after g (before ++ event.Reference r ∷ []) es ++
    occurrences_after g b more) (append_assoc before (event.Reference r ∷ []) es))
occurrences_after-append g before (event.Flush ∷ es) more =
    cc (
      occurrences_after-append g (before ++ event.Flush ∷ []) es more,
      append_assoc before (event.Flush ∷ []) es,
    )

pub occurrences-reference : (g : GeometryValue) (es : List Event) (r : Ref) →
    occurrences g (es ++ event.Reference r ∷ []) ≡ occurrences g es ++ occurrence_after g es r ∷ []
unfolding occurrences_after
occurrences-reference g es r = occurrences_after-append g [] es (event.Reference r ∷ [])

pub occurrences-flush : (g : GeometryValue) (es : List Event) →
    occurrences g (es ++ event.Flush ∷ []) ≡ occurrences g es
unfolding occurrences_after
occurrences-flush g es = occurrences_after-append g [] es (event.Flush ∷ []) ∙
    append-nil (occurrences g es)

-- a sum over the occurrences, with one more reference
pub sum_by-reference : (f : Occurrence → ℕ) (g : GeometryValue) (es : List Event) (r : Ref) →
    sum_by f (occurrences g (es ++ event.Reference r ∷ [])) ≡ sum_by f (occurrences g es) + f
    (occurrence_after g es r)
sum_by-reference f g es r = ap (λ ps. sum_by f ps) (occurrences-reference g es r) ∙
    sum_by_push f (occurrences g es) (occurrence_after g es r)
