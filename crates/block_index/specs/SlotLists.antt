-- Lists of slots, no slot in two of them, and the links that keep them.
use Rattle.std.specs.Prelude.{ℕ, zero, suc, ◌≡◌, ◌≤◌, ◌<◌, ◌+◌, ◌^◌, ◌==◌, nat_lt, Bool, true}
use Rattle.std.specs.Prelude.{false}
use Rattle.std.specs.Prelude.{if◌then◌else◌, List, [], ◌∷◌, length, map, drop, slice_set}
use Rattle.std.specs.Prelude.{slice_index}
use Rattle.std.specs.Prelude.{slice_index_or, Option, Some, None}
use Rattle.std.specs.List.{list_any, position_or_len, remove}

-- the slots from 0 on and before `slots`, and lists of some of them
pub record SlotListsValue : Type 0 where
  pub slots : ℕ
  pub lists : List (List ℕ)

-- whether slot s is in a list
abbrev pub has_slot : ℕ → List ℕ → Bool
has_slot s xs = list_any (λ t. t == s) xs

-- whether slot s is in one of the lists
abbrev pub is_listed : List (List ℕ) → ℕ → Bool
is_listed lists s = list_any (has_slot s) lists

-- the place of slot s in a list, or the list's length
abbrev pub index_of_slot : ℕ → List ℕ → ℕ
index_of_slot s xs = position_or_len (λ t. t == s) xs

-- list k
abbrev pub list_at : SlotListsValue → ℕ → List ℕ
list_at v k = slice_index_or v.lists k []

-- with slot s in front of list k
abbrev pub with_first : SlotListsValue → ℕ → ℕ → SlotListsValue
with_first v k s = record v { lists = slice_set v.lists k (s ∷ list_at v k) }

-- with slot s taken out of list k
abbrev pub without_slot : SlotListsValue → ℕ → ℕ → SlotListsValue
without_slot v k s = record v {
  lists =
      slice_set v.lists k (remove (list_at v k) (index_of_slot s (list_at v k)));
}

-- no slot is twice in a list
abbrev pub AreOnce : List ℕ → Type 0
AreOnce [] = Unit {0}
AreOnce (s ∷ xs) = (has_slot s xs ≡ false) × AreOnce xs

-- each slot of a list is below `slots`, and no slot is listed twice
pub record AreApart (v : SlotListsValue) : Type 0 where
  pub below : (k s : ℕ) → has_slot s (list_at v k) ≡ true → s < v.slots
  pub one_list : (j k s : ℕ) → has_slot s (list_at v j) ≡ true → has_slot s (list_at v k) ≡ true →
      j ≡ k
  pub once : (k : ℕ) → AreOnce (list_at v k)

-- no slot of list k from `from` on and before `end` has block b
abbrev pub NoneOfListHas : SlotListsValue → ℕ → List ℕ → ℕ → ℕ → ℕ → Type 0
NoneOfListHas v k blocks b from end = (s : ℕ) → has_slot s (list_at v k) ≡ true → from ≤ s →
    s < end → slice_index blocks s ≡ b → ⊥

-- a node, if it is a slot
abbrev pub slot_at_node : ℕ → ℕ → Option ℕ
slot_at_node slots node = if nat_lt node slots then Some node else None

-- node b is the one after node a
pub record IsLink (before after : List ℕ) (a b : ℕ) : Type 0 where
  pub after_is : slice_index after a ≡ b
  pub before_is : slice_index before b ≡ a

-- from node a to node b over the slots of a list
abbrev pub IsPath : List ℕ → List ℕ → ℕ → List ℕ → ℕ → Type 0
IsPath before after a [] b = IsLink before after a b
IsPath before after a (s ∷ xs) b = IsLink before after a s × IsPath before after s xs b

-- node a and those after it, at most n, until one that is no slot
unfoldable pub linked_slots : List ℕ → ℕ → ℕ → ℕ → List ℕ
linked_slots after slots zero a = []
linked_slots after slots (suc n) a =
    if nat_lt a slots then a ∷ linked_slots after slots n (slice_index after a) else []

-- the lists whose heads are the nodes behind the slots
abbrev pub linked_lists : List ℕ → ℕ → SlotListsValue
linked_lists after slots = record {
  slots = slots;
  lists = map (linked_slots after slots slots) (drop slots after);
}

-- each list is a path from its head to its head
pub record AreLinked (before after : List ℕ) (v : SlotListsValue) : Type 0 where
  pub few : v.slots + length v.lists ≤ 2 ^ 23
  pub before_long : length before ≡ v.slots + length v.lists
  pub after_long : length after ≡ v.slots + length v.lists
  pub paths : (k : ℕ) → k < length v.lists →
      IsPath before after (v.slots + k) (list_at v k) (v.slots + k)
  pub apart : AreApart v
