-- The range, the size and the lines leave the associativities between two numbers.
use Rattle.std.proofs.Common.{◌≡◌, arith, subst, ◌&&◌, ◌||◌, not}
use Rattle.sweep_core.specs.Space.{Ranges, is_valid, is_in_range, config}
use Rattle.cache_core.specs.Powers.{is_power}
use Rattle.sweep_core.proofs.Ways.{of_space, pair_some, pair_fits, ways-valid, few_ways}
use Rattle.sweep_core.proofs.space.Space.ways_of.Goals as goal

pub overflow_mul-way_bytes : goal.overflow_mul-way_bytes
overflow_mul-way_bytes c =
    omega (
      arith,
      pair_fits (of_space c.self.view_is c.self.invariant c.requires.block
          c.requires.set c.requires.powers.0 c.requires.powers.1),
    )

pub div_ceil-requires : goal.div_ceil-requires
div_ceil-requires c = pair_some (of_space c.self.view_is c.self.invariant c.requires.block
    c.requires.set c.requires.powers.0 c.requires.powers.1)

pub nonzero_div-self-inside : goal.nonzero_div-self-inside
nonzero_div-self-inside c = pair_some (of_space c.self.view_is c.self.invariant c.requires.block
    c.requires.set c.requires.powers.0 c.requires.powers.1)

pub returns-clause-valid : goal.returns-clause-valid
returns-clause-valid c e =
    subst (λ (r : Ranges). is_valid r (config c.args.bsize c.args.sets e)
    ≡ (is_in_range (c.max.result, c.min.result) e && (not r.powers || is_power e))) c.self.view_is
    (ways-valid (of_space c.self.view_is c.self.invariant c.requires.block c.requires.set
    c.requires.powers.0 c.requires.powers.1) e
    c.div_ceil.ensures c.max.ensures c.min-most.ensures c.min.ensures)

pub returns-clause-few : goal.returns-clause-few
returns-clause-few c =
    let few = few_ways (of_space c.self.view_is c.self.invariant c.requires.block c.requires.set
    c.requires.powers.0 c.requires.powers.1) in
    omega (arith, c.min.ensures, c.min-most.ensures, few)
