-- A batch of references that is fed one after the other. Some are passed over, and change nothing.
use Rattle.std.proofs.Common.{◌≡◌, ℕ, ◌+◌, ◌<◌, ◌≤◌, Bool, true, false, cond, List, [], ◌∷◌, ◌++◌}
use Rattle.std.proofs.Common.{length, take, drop, get_or, set, fold, refl, sym, ap, ◌∙◌, arith}
use Rattle.std.proofs.Common.{length-set, subst}
use Rattle.std.proofs.lemmas.Grind.{take_at_read}
use Rattle.std.proofs.lemmas.List.{drop-set-lt, drop-drop, append-nil, get_or-drop, take_more_set}
use Rattle.std.proofs.lemmas.List.{length-append}
use Rattle.std.proofs.lemmas.List.Sums.{fold-append}

-- which references a profile passes over, what it is after another one, how many it was fed, and
-- which ones of a batch it does not pass over
pub record Passing (V X : Type 0) : Type 0 where
  pub is_passed : V → X → Bool
  pub after : V → X → V
  pub fed : V → ℕ
  pub left : V → List X → List X
  pub left_more : (v : V) (xs : List X) (x : X) →
      left v (xs ++ x ∷ []) ≡ left v xs ++ cond (is_passed (fold after v xs) x) [] (x ∷ [])

-- some references, of which n or fewer are left, were fed to profile v, which is w now, and `left`
-- were not passed over
pub record IsFed {V X : Type 0} (f : Passing V X) (n : ℕ) (given : List X) (v w : V)
    (left : List X) : Type 0 where
  pub step : w ≡ fold f.after v given
  pub kept : left ≡ f.left v given
  pub count : f.fed w ≡ f.fed v + length left
  pub few : length left ≤ n

-- of the references up to a place some stand before the others
pub record AreBefore {X : Type 0} (at fed : ℕ) (old now : List X) : Type 0 where
  pub rest : drop at now ≡ drop at old
  pub same_length : length now ≡ length old
  pub few : fed ≤ at

-- the references so far were fed to a profile
pub record IsFedTo {V X : Type 0} (f : Passing V X) (at fed : ℕ) (v w : V)
    (old now : List X) : Type 0 where
  pub all : IsFed f at (take at old) v w (take fed now)
  pub before : AreBefore at fed old now

-- or to two: the second, v' and w' now, was fed what the first did not pass over
pub record AreFedTo {V X : Type 0} (f : Passing V X) (at fed : ℕ) (v w v' w' : V)
    (old now : List X) : Type 0 where
  pub all : IsFed f at (take at old) v w (f.left v (take at old))
  pub next : IsFed f at (f.left v (take at old)) v' w' (take fed now)
  pub before : AreBefore at fed old now

-- what is left grows by a reference that is not passed over
longer : {X : Type 0} (left : List X) (x : X) (passed : Bool) (left' : List X) →
    left' ≡ left ++ cond passed [] (x ∷ []) → length left' ≡ length left + cond passed 0 1
longer left x true left' is = ap length (is ∙ append-nil left) ∙ omega arith
longer left x false left' is = ap length is ∙ length-append left (x ∷ [])

one_at_most : (passed : Bool) → cond {A = ℕ} passed 0 1 ≤ 1
one_at_most true = omega arith
one_at_most false = omega arith

module _ {V X : Type 0} {f : Passing V X} {n : ℕ} {given : List X} {v w : V} {left : List X}
    (so_far : IsFed f n given v w left) where
  -- none is fed
  fed_as_much : IsFed f (n + 1) given v w left
  fed_as_much = record {
    step = so_far.step;
    kept = so_far.kept;
    count = so_far.count;
    few = omega (arith, so_far.few);
  }

  fed_more : (x : X) (after : V) → after ≡ f.after w x → (passed : Bool) →
      f.is_passed w x ≡ passed → f.fed after ≡ f.fed w + cond passed 0 1 →
      {given' left' : List X} → given' ≡ given ++ x ∷ [] →
      left' ≡ left ++ cond passed [] (x ∷ []) → IsFed f (n + 1) given' v after left'
  fed_more x after next passed h more {given'} {left'} given_is left_is = record {
    step = next ∙ ap (λ u. f.after u x) so_far.step
        ∙ sym (fold-append f.after v given (x ∷ []))
        ∙ ap (fold f.after v) (sym given_is);
    kept = left_is ∙ ap (λ l. l ++ cond passed [] (x ∷ [])) so_far.kept
        ∙ ap (λ b. f.left v given ++ cond b [] (x ∷ []))
        (sym h ∙ ap (λ u. f.is_passed u x) so_far.step)
        ∙ sym (f.left_more v given x) ∙ ap (f.left v) (sym given_is);
    count = omega (arith, more, so_far.count, longer left x passed left' left_is);
    few = omega (arith, so_far.few, longer left x passed left' left_is, one_at_most passed);
  }

module _ {X : Type 0} {at fed : ℕ} {old now : List X} (b : AreBefore at fed old now)
    (inside : at < length old) (d : X) where
  abbrev next_ref : X
  next_ref = get_or now at d

  ref_taken : take (at + 1) old ≡ take at old ++ next_ref ∷ []
  ref_taken =
      let here : next_ref ≡ get_or old at d =
      ap (λ n. get_or now n d) {x = at} {y = at + 0} (omega arith) ∙
      sym (get_or-drop at now 0 d) ∙ ap (λ l. get_or l 0 d) b.rest ∙
      get_or-drop at old 0 d ∙ ap (λ n. get_or old n d) {x = at + 0} {y = at} (omega arith) in
      (take_at_read old at d inside).1 ∙ ap (λ c. take at old ++ c ∷ []) (sym here)

  rest_after : drop (at + 1) now ≡ drop (at + 1) old
  rest_after = sym (drop-drop 1 at now) ∙ ap (drop 1) b.rest ∙ drop-drop 1 at old

  -- the next is not kept
  before_more : AreBefore (at + 1) fed old now
  before_more =
      record { rest = rest_after; same_length = b.same_length; few = omega (arith, b.few) }

  -- or it is
  before_put : AreBefore (at + 1) (fed + 1) old (set now fed next_ref)
  before_put = record {
    rest = drop-set-lt (at + 1) now fed next_ref (omega (arith, b.few)) ∙ rest_after;
    same_length = length-set now fed next_ref ∙ b.same_length;
    few = omega (arith, b.few);
  }

  kept_put : take (fed + 1) (set now fed next_ref) ≡ take fed now ++ next_ref ∷ []
  kept_put = take_more_set now fed next_ref (omega (arith, b.few, inside, b.same_length))

module _ {V X : Type 0} {f : Passing V X} {at fed : ℕ} {v w : V} {old now : List X}
    (so_far : IsFedTo f at fed v w old now) (inside : at < length old) (d : X) (after : V)
    (next : after ≡ f.after w (get_or now at d)) where
  -- one that is passed over
  pub fed_passed : f.is_passed w (get_or now at d) ≡ true → f.fed after ≡ f.fed w + 0 →
      IsFedTo f (at + 1) fed v after old now
  fed_passed passed more = record {
    all = fed_more so_far.all _ after next true passed more (ref_taken so_far.before inside d)
        (sym (append-nil (take fed now)));
    before = before_more so_far.before inside d;
  }

  -- or not
  pub fed_left : f.is_passed w (get_or now at d) ≡ false → f.fed after ≡ f.fed w + 1 →
      IsFedTo f (at + 1) (fed + 1) v after old (set now fed (get_or now at d))
  fed_left other more = record {
    all = fed_more so_far.all _ after next false other more (ref_taken so_far.before inside d)
        (kept_put so_far.before inside d);
    before = before_put so_far.before inside d;
  }

module _ {V X : Type 0} {f : Passing V X} {at fed : ℕ} {v w v' w' : V} {old now : List X}
    (so_far : AreFedTo f at fed v w v' w' old now) (inside : at < length old) (d : X)
    (after : V) (next : after ≡ f.after w (get_or now at d)) where
  abbrev x : X
  x = get_or now at d

  -- what the first was fed, and what it did not pass over
  module _ {passed : Bool} (h : f.is_passed w x ≡ passed)
      (more : f.fed after ≡ f.fed w + cond passed 0 1) where
    first_fed : IsFed f (at + 1) (take (at + 1) old) v after
        (f.left v (take at old) ++ cond passed [] (x ∷ []))
    first_fed =
        fed_more so_far.all x after next passed h more (ref_taken so_far.before inside d) refl

    first_all : IsFed f (at + 1) (take (at + 1) old) v after (f.left v (take (at + 1) old))
    first_all = subst (λ l. IsFed f (at + 1) (take (at + 1) old) v after l) first_fed.kept first_fed

  -- passed over by the first
  pub both_passed : f.is_passed w x ≡ true → f.fed after ≡ f.fed w + 0 →
      AreFedTo f (at + 1) fed v after v' w' old now
  both_passed passed more = record {
    all = first_all passed more;
    next = subst (λ l. IsFed f (at + 1) l v' w' (take fed now))
        (sym (append-nil (f.left v (take at old))) ∙ (first_fed passed more).kept)
        (fed_as_much so_far.next);
    before = before_more so_far.before inside d;
  }

  -- or fed to it, and then to the second
  module _ (other : f.is_passed w x ≡ false) (more : f.fed after ≡ f.fed w + 1)
      (after' : V) (next' : after' ≡ f.after w' x) where
    pub next_passed : f.is_passed w' x ≡ true → f.fed after' ≡ f.fed w' + 0 →
        AreFedTo f (at + 1) fed v after v' after' old now
    next_passed passed more' = record {
      all = first_all other more;
      next = fed_more so_far.next x after' next' true passed more'
          (sym (first_fed other more).kept) (sym (append-nil (take fed now)));
      before = before_more so_far.before inside d;
    }

    pub both_left : f.is_passed w' x ≡ false → f.fed after' ≡ f.fed w' + 1 →
        AreFedTo f (at + 1) (fed + 1) v after v' after' old (set now fed x)
    both_left other' more' = record {
      all = first_all other more;
      next = fed_more so_far.next x after' next' false other' more'
          (sym (first_fed other more).kept) (kept_put so_far.before inside d);
      before = before_put so_far.before inside d;
    }
