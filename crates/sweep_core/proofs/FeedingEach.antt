-- Each profile in turn is fed a batch.
use Rattle.std.proofs.Common.{◌≡◌, ℕ, zero, suc, ◌+◌, ◌-◌, ◌<◌, ◌≤◌, List, [], ◌∷◌, ◌++◌, map, take}
use Rattle.std.proofs.Common.{drop, length, get_or, refl, sym, ap, ◌∙◌, subst, arith, cond, true}
use Rattle.std.proofs.Common.{false, inl, inr}
use Rattle.std.specs.List.{AllByRecursion as Each}
use Rattle.std.proofs.Math.ListN.{set}
use Rattle.std.proofs.lemmas.List.{drop_more, take_all, length-drop, take-append-le, length-take}
use Rattle.std.proofs.lemmas.List.{get_or-set_other, drop_at, length-map, length-take-le}
use Rattle.std.proofs.lemmas.List.{get_or-drop}
use Rattle.std.proofs.lemmas.List.Edits.{map_over_more}
use Rattle.std.proofs.lemmas.Bool.{cases_lt}
use Rattle.cache_core.specs.Geometry.{block_of}
use Rattle.profile_core.specs.profile.State.{ProfileState}
use Rattle.profile_core.specs.profile.Fronts.{after_batch, fed_of_batch, after_unless_front}
use Rattle.profile_core.specs.profile.Fronts.{is_front_of}
use Rattle.sweep_core.specs.declared.profiles.PairProfile.{PairProfile}
use Rattle.sweep_core.specs.internal.Feeding.{pair_after_batch, AlwaysLeads, AreAlwaysLed}
use Rattle.sweep_core.specs.internal.Feeding.{IsFedToTwo, IsGiven}
use Rattle.sweep_core.proofs.Lists.{Each-both, Each-take}
use Rattle.sweep_core.proofs.Passes.{unreached}
use Rattle.sweep_core.proofs.Waiting.{fed-past}

-- to feed a profile some addresses is to feed it the batch
abbrev pub Serves : List ℕ → List ℕ → PairProfile → Type 0
Serves addrs batch y = pair_after_batch addrs y ≡ pair_after_batch batch y

-- the profiles before an index were fed the batch; `count` addresses serve for all others, and
-- `led_count` for those before `end`
pub record IsFedUpTo (at count led_count end : ℕ) (batch addrs led : List ℕ)
    (old now : List PairProfile) : Type 0 where
  pub fed : now ≡ map (pair_after_batch batch) (take at old) ++ drop at old
  pub serves : Each (Serves (take count addrs) batch) (drop at old)
  pub led_serves : Each (Serves (take led_count led) batch) (take (end - at) (drop at old))
  pub most : count ≤ length batch
  pub led_most : led_count ≤ length batch
  pub same_length : length addrs ≡ length batch

-- the same of equal values
pub of_equal : {at count led_count end : ℕ} {batch addrs led : List ℕ} {old now : List PairProfile}
    {count' led_count' end' : ℕ} {addrs' led' : List ℕ} {now' : List PairProfile}
    → count' ≡ count → led_count' ≡ led_count → end' ≡ end → addrs' ≡ addrs → led' ≡ led →
    now' ≡ now → IsFedUpTo at count led_count end batch addrs led old now
    → IsFedUpTo at count' led_count' end' batch addrs' led' old now'
of_equal {at} {count} {led_count} {end} {batch} {addrs} {led} {old} {now} {count'} {led_count'}
    {end'} {addrs'} {led'} {now'} c l e a d n h =
    subst (λ v. IsFedUpTo at v led_count' end' batch addrs' led' old now') (sym c)
    (subst (λ v. IsFedUpTo at count v end' batch addrs' led' old now') (sym l)
    (subst (λ v. IsFedUpTo at count led_count v batch addrs' led' old now') (sym e)
    (subst (λ v. IsFedUpTo at count led_count end batch v led' old now') (sym a)
    (subst (λ v. IsFedUpTo at count led_count end batch addrs v old now') (sym d)
    (subst (λ v. IsFedUpTo at count led_count end batch addrs led old v) (sym n) h)))))

-- of what holds of each element of a part of a list
pub each_drop : (P : PairProfile → Type 0) (xs : List PairProfile) (i : ℕ) (d : PairProfile) →
    i < length xs → Each P (drop i xs) → P (get_or xs i d) × Each P (drop (i + 1) xs)
each_drop P xs i d inside h = subst (Each P) (drop_more xs i d inside) h

pub each_take : (P : PairProfile → Type 0) (xs : List PairProfile) (i e : ℕ) (d : PairProfile) →
    i < length xs → i < e → Each P (take (e - i) (drop i xs)) →
    P (get_or xs i d) × Each P (take (e - (i + 1)) (drop (i + 1) xs))
each_take P xs i e d inside before h =
    subst (λ n. Each P (take n (get_or xs i d ∷ drop (i + 1) xs))) {x = e - i}
    {y = suc (e - (i + 1))} (omega (arith, before))
    (subst (λ l. Each P (take (e - i) l)) (drop_more xs i d inside) h)

pub each_less : (P : PairProfile → Type 0) (m n : ℕ) (xs : List PairProfile) → m ≤ n →
    Each P (take n xs) → Each P (take m xs)
each_less P zero n xs le h = tt
each_less P (suc m) n [] le h = tt
each_less P (suc m) zero (x ∷ xs) le h = absurd (omega (arith, le))
each_less P (suc m) (suc n) (x ∷ xs) le h = (h.0, each_less P m n xs (omega (arith, le)) h.1)

pub led-at : (xs : List PairProfile) (i : ℕ) (d : PairProfile) → i < length xs → AreAlwaysLed xs
    → (i + 1 + (get_or xs i d).followers ≤ length xs) ×
    Each (λ y. AlwaysLeads (get_or xs i d).profile y.profile)
    (take (get_or xs i d).followers (drop (i + 1) xs))
led-at [] i d inside led = absurd (omega (arith, inside))
led-at (x ∷ xs) zero d inside led = (omega (arith, led.0), led.1)
led-at (x ∷ xs) (suc i) d inside led =
    let rest = led-at xs i d (omega (arith, inside)) led.2 in (
      omega (arith, rest.0),
      subst (λ n. Each (λ y. AlwaysLeads (get_or xs i d).profile y.profile)
          (take (get_or xs i d).followers (drop n (x ∷ xs)))) {x = suc (i + 1)} {y = suc i + 1}
          (omega arith) rest.1,
    )

module _ {at count led_count end : ℕ} {batch addrs led : List ℕ} {old now : List PairProfile}
    (so_far : IsFedUpTo at count led_count end batch addrs led old now)
    (inside : at < length old) (always : AreAlwaysLed old) (d : PairProfile)
    (is : d ≡ get_or now at d) where
  abbrev x : PairProfile
  x = get_or now at d

  here : x ≡ get_or old at d
  here = ap (λ ys. get_or ys at d) so_far.fed ∙ unreached (pair_after_batch batch) old at d inside

  pub followers-within : at + 1 + x.followers ≤ length old
  followers-within = omega (arith, (led-at old at d inside always).0, ap (λ y. y.followers) here)

  leads : Each (λ y. AlwaysLeads x.profile y.profile) (take x.followers (drop (at + 1) old))
  leads = subst (λ z. Each (λ y. AlwaysLeads z.profile y.profile)
      (take z.followers (drop (at + 1) old))) (sym here) (led-at old at d inside always).1

  -- The profile at the index is fed some addresses, of which `left` are left in front of others.
  module _ (given : List ℕ) (serves_here : Serves given batch (get_or old at d)) (p : ProfileState)
      (after : p ≡ after_batch x.profile given) (items rest : List ℕ) (left : ℕ)
      (are_left : take left items ≡ fed_of_batch x.profile given) (within : left ≤ length items)
      (small : left ≤ length batch) where
    now_fed : set now at (record x { profile = p }) ≡ map (pair_after_batch batch)
        (take (at + 1) old) ++ drop (at + 1) old
    now_fed = ap (λ v. set now at (record x { profile = v })) after ∙
        ap (set now at) (ap (pair_after_batch given) here ∙ serves_here ∙
        ap (pair_after_batch batch) (sym here)) ∙
        map_over_more (pair_after_batch batch) old now at x inside so_far.fed
        (ap (get_or now at) is)

    -- these serve for those that it leads
    serve_more : (zs : List PairProfile) → Each (λ y. AlwaysLeads x.profile y.profile) zs →
        Each (Serves given batch) zs → Each (Serves (take left (items ++ rest)) batch) zs
    serve_more zs led_by served =
        subst (λ l. Each (Serves l batch) zs)
        (sym (take-append-le left items rest within ∙ are_left))
        (Each-both (λ y. AlwaysLeads x.profile y.profile) (Serves given batch)
        (Serves (fed_of_batch x.profile given) batch)
        (λ y leads_it serves. ap (λ v. record y { profile = v })
        (fed-past x.profile y.profile given leads_it) ∙ serves) zs led_by served)

    -- up to the profile `until`, of those that the addresses served for
    pub serves_led : (until : ℕ) → until ≤ at + 1 + x.followers
        → Each (Serves given batch) (take (until - (at + 1)) (drop (at + 1) old))
        → IsFedUpTo (at + 1) count left until batch addrs (items ++ rest) old
        (set now at (record x { profile = p }))
    serves_led until most served = record {
      fed = now_fed;
      serves = (each_drop (Serves (take count addrs) batch) old at d inside so_far.serves).1;
      led_serves = serve_more (take (until - (at + 1)) (drop (at + 1) old))
          (each_less (λ y. AlwaysLeads x.profile y.profile) (until - (at + 1)) x.followers
          (drop (at + 1) old) (omega (arith, most)) leads) served;
      most = so_far.most;
      led_most = small;
      same_length = so_far.same_length;
    }

    -- for all that are to come
    pub serves_all : end ≤ at → x.followers ≡ length old - at - 1 →
        length (items ++ rest) ≡ length batch
        → Each (Serves given batch) (drop (at + 1) old)
        → IsFedUpTo (at + 1) left led_count end batch (items ++ rest) led old
        (set now at (record x { profile = p }))
    serves_all over all length_is served = record {
      fed = now_fed;
      serves = serve_more (drop (at + 1) old)
          (subst (Each (λ y. AlwaysLeads x.profile y.profile))
          (take_all x.followers (drop (at + 1) old)
          (omega (arith, all, length-drop (at + 1) old))) leads) served;
      led_serves = subst (λ n. Each (Serves (take led_count led) batch)
          (take n (drop (at + 1) old))) {x = 0} {y = end - (at + 1)} (omega (arith, over)) tt;
      most = small;
      led_most = so_far.led_most;
      same_length = length_is;
    }

-- The references given to the profile at the index are also enough for the profiles up to `until`.
pub given_serves : {at count led_count end followers given until : ℕ}
    {batch addrs led led' : List ℕ} {old now : List PairProfile} →
    IsFedUpTo at count led_count end batch addrs led old now →
    IsGiven at followers led_count end (take count addrs) led led' given until →
    IsFedUpTo at count given until batch addrs led' old now
given_serves {at} {count} {led_count} {end} {followers} {given} {until} {batch} {addrs} {led} {led'}
    {old} so_far is =
    let serving : Each (Serves (take given led') batch) (take (until - at) (drop at old)) ×
    (given ≤ length batch) =
    elim (cases_lt at end) [
      | inl before ↦
          let kept = is.kept before in (
            subst (λ l. Each (Serves (take given l) batch) (take (until - at) (drop at old)))
                (sym kept.2)
                (subst (λ n. Each (Serves (take n led) batch) (take (until - at) (drop at old)))
                (sym kept.0)
                (each_less (Serves (take led_count led) batch) (until - at) (end - at)
                (drop at old) (omega (arith, kept.1)) so_far.led_serves)),
            omega (arith, kept.0, so_far.led_most),
          )
      | inr past ↦
          let all = is.all past in (
            subst (λ l. Each (Serves l batch) (take (until - at) (drop at old))) (sym all.2)
                (Each-take (Serves (take count addrs) batch) (until - at) (drop at old)
                so_far.serves),
            omega (arith, all.0, length-take count addrs, so_far.most),
          )
    ] in
    record {
      fed = so_far.fed;
      serves = so_far.serves;
      led_serves = serving.0;
      most = so_far.most;
      led_most = serving.1;
      same_length = so_far.same_length;
    }

pub given_within : {at followers led_count end given until : ℕ} {addrs led led' : List ℕ} →
    IsGiven at followers led_count end addrs led led' given until → until ≤ at + 1 + followers
given_within {at} {followers} {led_count} {end} is = elim (cases_lt at end) [
  | inl before ↦ omega (arith, (is.kept before).1)
  | inr past ↦ omega (arith, (is.all past).1)
]

pub given_reaches : {at followers led_count end given until : ℕ} {addrs led led' : List ℕ} →
    IsGiven at followers led_count end addrs led led' given until → at < until
given_reaches {at} {followers} {led_count} {end} is = elim (cases_lt at end) [
  | inl before ↦ omega (arith, before, (is.kept before).1)
  | inr past ↦ omega (arith, (is.all past).1)
]

-- a profile is fed no more than it is given
pub fed-short : (v : ProfileState) (addrs : List ℕ) → length (fed_of_batch v addrs) ≤ length addrs
fed-short v [] = omega arith
fed-short v (a ∷ addrs) =
    let w = after_unless_front v (block_of v.geometry a) in
    let less = fed-short w addrs in
    elim (is_front_of v (block_of v.geometry a)) as (λ front.
    length (cond front (fed_of_batch w addrs) (a ∷ fed_of_batch w addrs)) ≤ length (a ∷ addrs))
    [ true ↦ omega (arith, less) | false ↦ omega (arith, less) ]

-- The profile at the index and the next are fed some addresses together.
module _ {at count led_count end : ℕ} {batch addrs led : List ℕ} {old now : List PairProfile}
    (so_far : IsFedUpTo at count led_count end batch addrs led old now)
    (inside : at + 1 < length old) (always : AreAlwaysLed old)
    (after : List PairProfile) (left_list : List ℕ)
    (t : IsFedToTwo at (take led_count led) now after left_list) where
  abbrev given : List ℕ
  given = take led_count led

  abbrev first : PairProfile
  first = get_or now at t.first

  abbrev passed : List ℕ
  passed = fed_of_batch first.profile given

  abbrev now1 : List PairProfile
  now1 = set now at (pair_after_batch given first)

  abbrev second : PairProfile
  second = get_or now1 (at + 1) t.second

  second_is : second ≡ t.second
  second_is = get_or-set_other now at (at + 1) (pair_after_batch given first) t.second
      (λ same. absurd (omega (arith, same))) ∙ sym t.second_is

  passed_is : passed ≡ fed_of_batch t.first.profile given
  passed_is = ap (λ x. fed_of_batch x.profile given) (sym t.first_is)

  given_short : length given ≤ length batch
  given_short = omega (arith, length-take led_count led, so_far.led_most)

  module _ (until next_until : ℕ) (before : at < end) (within_end : until ≤ end)
      (within_first : until ≤ at + 1 + first.followers) (next : at + 1 < until)
      (within_until : next_until ≤ until)
      (within_second : next_until ≤ at + 1 + 1 + t.second.followers)
      (items rest : List ℕ) (left : ℕ) (are_left : take left items ≡ left_list)
      (within : left ≤ length items) (same : length items ≤ length given) where
    served : Serves given batch (get_or old at t.first) ×
        Each (Serves given batch) (take (end - (at + 1)) (drop (at + 1) old))
    served = each_take (Serves given batch) old at end t.first (omega (arith, inside)) before
        so_far.led_serves

    fed_first : IsFedUpTo (at + 1) count (length passed) until batch addrs (passed ++ []) old now1
    fed_first = serves_led so_far (omega (arith, inside)) always t.first t.first_is given served.0
        (after_batch first.profile given) refl passed [] (length passed)
        (take_all (length passed) passed (omega arith)) (omega arith)
        (omega (arith, fed-short first.profile given, given_short)) until within_first
        (each_less (Serves given batch) (until - (at + 1)) (end - (at + 1)) (drop (at + 1) old)
        (omega (arith, within_end)) served.1)

    abbrev given1 : List ℕ
    given1 = take (length passed) (passed ++ [])

    given1_is : given1 ≡ passed
    given1_is = take-append-le (length passed) passed [] (omega arith) ∙
        take_all (length passed) passed (omega arith)

    served1 : Serves given1 batch (get_or old (at + 1) t.second) ×
        Each (Serves given1 batch) (take (until - (at + 1 + 1)) (drop (at + 1 + 1) old))
    served1 = each_take (Serves given1 batch) old (at + 1) until t.second inside next
        fed_first.led_serves

    pub fed_both : IsFedUpTo (at + 1 + 1) count left next_until batch addrs (items ++ rest) old
        after
    fed_both =
        let all = serves_led fed_first inside always t.second (sym second_is) given1 served1.0
        (after_batch second.profile given1) refl items rest left
        (are_left ∙ t.left_are
        ∙ ap (λ y. fed_of_batch y.profile (fed_of_batch t.first.profile given)) (sym second_is)
        ∙ ap (fed_of_batch second.profile) (sym passed_is ∙ sym given1_is))
        within (omega (arith, within, same, given_short)) next_until
        (omega (arith, within_second, ap (λ y. y.followers) second_is))
        (each_less (Serves given1 batch) (next_until - (at + 1 + 1)) (until - (at + 1 + 1))
        (drop (at + 1 + 1) old) (omega (arith, within_until)) served1.1) in
        let is : after ≡ set now1 (at + 1) (pair_after_batch given1 second) =
        t.fed
        ∙ ap (λ x. set (set now at (pair_after_batch given x)) (at + 1)
        (pair_after_batch (fed_of_batch x.profile given) t.second)) t.first_is
        ∙ ap (λ y. set now1 (at + 1) (pair_after_batch passed y)) (sym second_is)
        ∙ ap (λ l. set now1 (at + 1) (pair_after_batch l second)) (sym given1_is) in
        subst (IsFedUpTo (at + 1 + 1) count left next_until batch addrs (items ++ rest) old)
        (sym is) all

-- those from the index on were not fed yet
module _ {at count led_count end : ℕ} {batch addrs led : List ℕ} {old now : List PairProfile}
    (so_far : IsFedUpTo at count led_count end batch addrs led old now) where
  pub unfed : at ≤ length old → drop at now ≡ drop at old
  unfed le = ap (drop at) so_far.fed ∙
      drop_at (map (pair_after_batch batch) (take at old)) (drop at old) at
      (length-map (take at old) (pair_after_batch batch) ∙ length-take-le at old le)

  pub next-within : (d : PairProfile) → at + 1 < length old → AreAlwaysLed old →
      at + 1 + 1 + (get_or now (at + 1) d).followers ≤ length old
  next-within d inside always =
      let same : get_or now (at + 1) d ≡ get_or old (at + 1) d =
      sym (get_or-drop at now 1 d) ∙ ap (λ l. get_or l 1 d) (unfed (omega (arith, inside))) ∙
      get_or-drop at old 1 d in
      omega (arith, (led-at old (at + 1) d inside always).0, ap (λ y. y.followers) same)

pub each_rest : (P : PairProfile → Type 0) (n : ℕ) (xs : List PairProfile) → Each P xs →
    Each P (drop n xs)
each_rest P zero xs h = h
each_rest P (suc n) [] h = tt
each_rest P (suc n) (x ∷ xs) h = each_rest P n xs h.1
