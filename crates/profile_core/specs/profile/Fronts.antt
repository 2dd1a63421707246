-- References that find their block in front of its set's list. They change no list, and a block in
-- front in one profile is in front in each that refines it (set refinement: Hill and Smith 1989).
-- So they can be counted together, later.
use Rattle.std.specs.Prelude.{ℕ, ◌+◌, ◌==◌, ◌&&◌, ◌||◌, nat_le, Bool, if◌then◌else◌, slice_set}
use Rattle.std.specs.Prelude.{slice_index, List, [], ◌∷◌, fold}
use Rattle.cache_core.specs.Geometry.{GeometryValue, block_of, set_of_block}
use Rattle.profile_core.specs.profile.RecencyList.{is_front}
use Rattle.profile_core.specs.profile.State.{ProfileState, list_of, after_reference}

-- whether a reference to block x finds it in front
abbrev pub is_front_of : ProfileState → ℕ → Bool
is_front_of v x = is_front x (list_of v (set_of_block v.geometry x))

-- after references to some addresses
abbrev pub after_references : ProfileState → List ℕ → ProfileState
after_references v addrs = fold (λ w a. after_reference w (block_of w.geometry a)) v addrs

-- after a reference to a block, or the same profile if the block is in front
abbrev pub after_unless_front : ProfileState → ℕ → ProfileState
after_unless_front v x = if is_front_of v x then v else after_reference v x

-- after references to some addresses, except those that find their block in front
abbrev pub after_batch : ProfileState → List ℕ → ProfileState
after_batch v addrs = fold (λ w a. after_unless_front w (block_of w.geometry a)) v addrs

-- those of some addresses whose references do not find their block in front
abbrev pub fed_of_batch : ProfileState → List ℕ → List ℕ
fed_of_batch v [] = []
fed_of_batch v (a ∷ addrs) =
    let later = fed_of_batch (after_unless_front v (block_of v.geometry a)) addrs in
    if is_front_of v (block_of v.geometry a) then later else a ∷ later

-- after n references that found their block in front
abbrev pub after_fronts : ℕ → ProfileState → ProfileState
after_fronts n v = record v {
  distances = slice_set v.distances 0 (slice_index v.distances 0 + n);
  probes = v.probes + n;
}

-- whether each block in front in one profile is also in front in another that was fed the same
abbrev pub is_refined : GeometryValue → GeometryValue → Bool
is_refined g h = g.b == h.b && nat_le g.s h.s || g.s == 0 && nat_le g.b h.b
