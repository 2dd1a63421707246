-- The meaning of a line, or its fault.
use Rattle.std.specs.Prelude.{ℕ, ◌==◌, nat_lt, ◌||◌, Bool, false, List, [], ◌∷◌, Option, None, Some}
use Rattle.std.specs.Prelude.{Result, Ok, Err, if◌then◌else◌}
use Rattle.std.specs.List.{before_first, after_first}
use Rattle.trace_core.specs.Fields.{without_trailing, fields, number_written, without_0x}
use Rattle.trace_core.specs.declared.events.Op.{Op}
use Rattle.trace_core.specs.declared.events.Op.TheVariants.{Fetch, Load, Store, Modify}
use Rattle.trace_core.specs.declared.events.Access.{Access}
use Rattle.trace_core.specs.declared.events.Access.TheVariants as access
use Rattle.trace_core.specs.declared.events.Entry.{Entry}
use Rattle.trace_core.specs.declared.events.Entry.TheVariants as entry
use Rattle.trace_core.specs.declared.line.Format.{Format}
use Rattle.trace_core.specs.declared.line.Format.TheVariants.{Din, Lackey}
use Rattle.trace_core.specs.declared.line.LineFault.{LineFault}
use Rattle.trace_core.specs.declared.line.LineFault.TheVariants.{Label, Address, Size}

-- the entry of an item, as a line gives it
abbrev pub item : Op → ℕ → ℕ → Option Entry
item op addr size = Some (entry.Item (record { op = op; addr = addr; size = size }))

-- goes on with a value, or stops with this fault if there is none
abbrev pub or_fault : {T : Type 0} → LineFault → Option T → (T → Result (Option Entry) LineFault) →
    Result (Option Entry) LineFault
or_fault fault None next = Err fault
or_fault fault (Some x) next = next x

-- the operations of the labels `0`, `1`, `2` (Dinero IV, traditional format)
abbrev pub din_op : ℕ → Option Op
din_op label =
    if label == 48 then Some Load
    else if label == 49 then Some Store
    else if label == 50 then Some Fetch
    else None

-- the label of a reference
abbrev pub din_label : Access → ℕ
din_label access.Read = 48
din_label access.Write = 49
din_label access.Fetch = 50

-- an item that is one access
abbrev pub op_of : Access → Op
op_of access.Read = Load
op_of access.Write = Store
op_of access.Fetch = Fetch

-- the meaning of a line with this label, its operation, if any, and this address; `3` is nothing,
-- and `4` a flush (these two are this project's)
abbrev pub entry_of_label : ℕ → ℕ → Option Op → Option Entry
entry_of_label label addr (Some op) = item op addr 0
entry_of_label label addr None = if label == 51 then None else Some entry.Flush

-- the meaning of a line with this label, `0` to `4`, and this address
abbrev pub din_entry : ℕ → ℕ → Option Entry
din_entry label addr = entry_of_label label addr (din_op label)

-- the address in the second field, after an optional `0x`
abbrev pub din_address : List (List ℕ) → Option ℕ
din_address [] = None
din_address (field ∷ further) = number_written 16 16 (without_0x field)

-- A din line by its fields: a label of one byte, an address, and whatever follows.
abbrev pub din_meaning : List (List ℕ) → Result (Option Entry) LineFault
din_meaning [] = Ok None
din_meaning ([] ∷ further) = Err Label
din_meaning ((label ∷ []) ∷ further) =
    if nat_lt label 48 || nat_lt 52 label then Err Label else or_fault Address (din_address further)
    (λ addr. Ok (din_entry label addr))
din_meaning ((label ∷ more ∷ bytes) ∷ further) = Err Label

-- the operations of the labels `I`, `L`, `S`, `M` (valgrind's lackey, `--trace-mem=yes`)
abbrev pub lackey_op : ℕ → Option Op
lackey_op label =
    if label == 73 then Some Fetch
    else if label == 76 then Some Load
    else if label == 83 then Some Store
    else if label == 77 then Some Modify
    else None

-- a comma
abbrev pub is_comma : ℕ → Bool
is_comma c = c == 44

-- the second field: an address up to its first comma, and a size after it
abbrev pub lackey_access : Op → List (List ℕ) → Result (Option Entry) LineFault
lackey_access op [] = Err Address
lackey_access op (field ∷ further) =
    or_fault Address (number_written 16 16 (before_first is_comma field))
    (λ addr. or_fault Size (number_written 10 9 (after_first is_comma field))
    (λ size. Ok (item op addr size)))

-- A lackey line by its fields: an operation of one byte, an address and a size, and whatever
-- follows.
abbrev pub lackey_meaning : List (List ℕ) → Result (Option Entry) LineFault
lackey_meaning [] = Ok None
lackey_meaning ([] ∷ further) = Err Label
lackey_meaning ((label ∷ []) ∷ further) =
    or_fault Label (lackey_op label) (λ op. lackey_access op further)
lackey_meaning ((label ∷ more ∷ bytes) ∷ further) = Err Label

-- a message of valgrind's begins with `=`, `-` or `*`
abbrev pub is_message : List ℕ → Bool
is_message [] = false
is_message (c ∷ cs) = c == 61 || c == 45 || c == 42

-- The meaning of a line: an entry, or nothing if it is skipped; or the fault of its leftmost bad
-- field.
abbrev pub meaning : Format → List ℕ → Result (Option Entry) LineFault
meaning Din line = din_meaning (fields (without_trailing line))
meaning Lackey line = if is_message line then Ok None else lackey_meaning
    (fields (without_trailing line))
