-- Where no listed set is left, all fronts and lengths are 0.
use Rattle.std.proofs.Common.{◌∙◌, ap, arith, subst, replicate}
use Rattle.std.proofs.lemmas.List.{drop_all}
use Rattle.cache_core.specs.Touched.{ListsFilled}
use Rattle.cache_core.proofs.TouchedSets.{no_count}
use Rattle.profile_core.proofs.set_lists.recency.blank_listed.Goals as goal

pub returns : goal.returns
returns c =
    let none = drop_all c.loop-set.set-index c.args.sets.now (omega arith) in
    record {
      fronts = no_count c.loop-set.fronts (subst (λ sets. ListsFilled sets c.loop-set.fronts) none
          c.loop-set.invariant.fronts) ∙ ap (λ n. replicate n 0) c.loop-set.auto.fronts;
      lens = no_count c.loop-set.lens (subst (λ sets. ListsFilled sets c.loop-set.lens) none
          c.loop-set.invariant.lens) ∙ ap (λ n. replicate n 0) c.loop-set.auto.lens;
    }
