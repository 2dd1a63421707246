use Rattle.std.proofs.Common.{◌≡◌, ◌<◌, ◌≤◌, ◌∙◌, ℕ, List, length, get_or, ap, sym, arith}
use Rattle.std.proofs.Common.{subst, inl, inr, eq-eqb}
use Rattle.std.proofs.lemmas.Bool.{cases_lt, false≢true}
use Rattle.std.proofs.lemmas.List.{get_or_read}
use Rattle.block_index.specs.Chains.{chain_of_block, IsOnChain, IsSought, IsFirst}
use Rattle.deep_list.specs.Slots.{SlotsValue, IsAt}
use Rattle.deep_list.specs.Chains.{ChainsValue, IsFiled}
use Rattle.deep_list.specs.Deep.{IsRanked}
use Rattle.deep_list.proofs.ChainLemmas.{chain_small, chain_rises}
use Rattle.deep_list.proofs.chains.Chains.find.Goals as goal

module _ {top end : ℕ} {slots : SlotsValue} {v : ChainsValue} (r : IsRanked top end slots v)
    (b a : ℕ) (head : a ≡ get_or v.heads (chain_of_block (length v.heads) b) 0) where
  -- a live slot that has the block is on the chain that was looked at
  sought : (s : ℕ) → IsAt slots b s → IsSought v.next slots.blocks a top end b s
  sought s at =
      let P : ℕ → Type 0 = λ x. IsFiled v x s in
      let Q : ℕ → ℕ → Type 0 = λ n i. IsOnChain v.next n i s in
      let long : length v.next ≡ length slots.blocks = r.chains_are.long ∙ sym r.same in
      record {
        on_chain = subst (λ n. Q n a) long (subst (Q (length v.next)) (sym head)
            (subst P at.block (r.filed s at.live)));
        from_on = elim (cases_lt s top) [
          | inl lt ↦ absurd (omega (arith, r.before s lt, at.live))
          | inr le ↦ le
        ];
        before_end = elim (cases_lt s end) [
          | inl lt ↦ lt
          | inr le ↦ absurd (omega (arith, r.behind s le, at.live))
        ];
        block = at.block;
      }

  -- if the first slot with the block isn't live, no slot with it is
  none_live : (f : ℕ) → IsFirst v.next slots.blocks a top end b f
      → (get_or slots.live f 0 ≡ 1 → ⊥) → (s : ℕ) → IsAt slots b s → ⊥
  none_live f found dead s at =
      let are = r.chains_are in
      let rises : (i j : ℕ) → top ≤ i → IsOnChain v.next (length slots.blocks) i j → i ≤ j =
      λ i j le on. chain_rises are i j le
      (subst (λ n. IsOnChain v.next n i j) r.same on) in
      let chain : ℕ = chain_of_block (length v.heads) b in
      let from : top ≤ f = elim found.place [
        | inl on ↦
            let start : top ≤ a =
            omega (arith, head, are.heads_from chain (chain_small (length v.heads) b are.some)) in
            omega (arith, start, rises a f start on)
        | inr among ↦ among.0
      ] in
      let before : f ≤ s = elim (found.first s (sought s at)) [
        | inl on ↦ rises f s from on
        | inr le ↦ le
      ] in
      let P : ℕ → Type 0 = λ i. get_or slots.live i 0 ≡ 1 in
      let other : (f ≡ s → ⊥) = λ same. dead (subst P (sym same) at.live) in
      r.latest f s from (omega (arith, before, other)) at.live (found.block ∙ sym at.block)

pub returns-else-is_live : goal.returns-else-is_live
returns-else-is_live c =
    let v = c.args.self.now in
    let slots = c.args.slots.now in
    let heads = c.self.inside.heads.items in
    let b : ℕ = c.args.block in
    let a : ℕ = c.index-first.result.now in
    let f : ℕ = c.in_ok-slot.slot in
    let heads_are = ap (λ w. w.heads) c.self.view_is in
    let long : c.len.result ≡ length heads =
    omega (arith, c.len.ensures, c.self.inside.heads.ok.0) in
    let within : c.chain_among.result < length heads =
    omega (arith, c.chain_among.ensures.within, long) in
    let read = get_or_read heads c.chain_among.result a within c.index-first.ensures 0 in
    let head : a ≡ get_or v.heads (chain_of_block (length v.heads) b) 0 =
    read ∙ ap (λ k. get_or heads k 0) (c.chain_among.ensures.is ∙
    ap (λ n. chain_of_block n b) long)
    ∙ ap (λ xs. get_or xs (chain_of_block (length xs) b) 0) heads_are in
    let P : List ℕ → Type 0 = λ links. IsFirst links slots.blocks a c.args.span.top
    c.args.span.end b f in
    let Q : List ℕ → Type 0 = λ blocks. IsFirst c.deref.result.now blocks a c.args.span.top
    c.args.span.end b f in
    let found = subst P (c.deref.ensures.value ∙ ap (λ w. w.next) c.self.view_is)
    (subst Q c.blocks-blocks.ensures (c.in_ok-slot.ensures {u = tt})) in
    λ s lt at. none_live c.requires b a head f found
    (λ one. false≢true (sym c.if-is_live.false ∙ c.is_live.ensures ∙
    eq-eqb (get_or slots.live f 0) 1 one)) s at
