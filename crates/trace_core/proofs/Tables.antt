-- The worked tables of the formats, computed.
use Rattle.std.proofs.Common.{◌≡◌, ℕ, ◌++◌, [], ◌∷◌, Option, None, Some, Result, Ok, Err, refl}
use Rattle.std.proofs.Common.{replicate}
use Rattle.std.specs.Prelude.{codes}
use Rattle.trace_core.specs.Line.{meaning, item}
use Rattle.trace_core.specs.Reading.{reading, cut_reading}
use Rattle.trace_core.specs.declared.events.Op.TheVariants.{Fetch, Load, Store, Modify}
use Rattle.trace_core.specs.declared.events.Entry.{Entry}
use Rattle.trace_core.specs.declared.events.Entry.TheVariants as entry
use Rattle.trace_core.specs.declared.line.Format.TheVariants.{Din, Lackey}
use Rattle.trace_core.specs.declared.line.LineFault.{LineFault}
use Rattle.trace_core.specs.declared.line.LineFault.TheVariants.{Label, Address, Size}
use Rattle.trace_core.specs.declared.fault.TraceFault.TheVariants as fault

Judged : Type 0
Judged = Result (Option Entry) LineFault

din1 : meaning Din [] ≡ Ok None
din1 = refl

din2 : meaning Din (32 ∷ 9 ∷ []) ≡ Ok None
din2 = refl

din3 : meaning Din (13 ∷ []) ≡ Ok None
din3 = refl

din4 : meaning Din (codes "0 10") ≡ Ok (item Load 16 0)
din4 = refl

din5 : meaning Din (9 ∷ 49 ∷ 9 ∷ codes "0X1f  comment") ≡ Ok (item Store 31 0)
din5 = refl

din6 : meaning Din (codes "2 ffffffffffffffff") ≡ Ok (item Fetch 18446744073709551615 0)
din6 = refl

din7 : meaning Din (codes "2 0ffffffffffffffff") ≡ Err Address
din7 = refl

din8 : meaning Din (codes "0") ≡ Err Address
din8 = refl

din9 : meaning Din (codes "0 0x") ≡ Err Address
din9 = refl

din10 : meaning Din (codes "0 12g") ≡ Err Address
din10 = refl

din11 : meaning Din (codes "00 10") ≡ Err Label
din11 = refl

din12 : meaning Din (codes "010") ≡ Err Label
din12 = refl

din13 : meaning Din (codes "5 zz") ≡ Err Label
din13 = refl

din14 : meaning Din (codes "0 1" ++ 13 ∷ 50 ∷ []) ≡ Err Address
din14 = refl

din15 : meaning Din (codes "4 zz") ≡ Err Address
din15 = refl

din16 : meaning Din (codes "3") ≡ Err Address
din16 = refl

din17 : meaning Din (codes "34 0") ≡ Err Label
din17 = refl

din18 : meaning Din (codes "4 0 x") ≡ Ok (Some entry.Flush)
din18 = refl

din19 : meaning Din (codes "3 ff") ≡ Ok None
din19 = refl

din20 : meaning Din (0 ∷ []) ≡ Err Label
din20 = refl

din21 : meaning Din (239 ∷ 187 ∷ 191 ∷ codes "0 10") ≡ Err Label
din21 = refl

din22 : meaning Din (codes "0 1" ++ 255 ∷ []) ≡ Err Address
din22 = refl

lackey1 : meaning Lackey (codes "I  0023C790,2") ≡ Ok (item Fetch 0x23C790 2)
lackey1 = refl

lackey2 : meaning Lackey (codes " M 0025747C,1 # data modify") ≡ Ok (item Modify 0x25747C 1)
lackey2 = refl

lackey3 : meaning Lackey (codes "L 0,000000000") ≡ Ok (item Load 0 0)
lackey3 = refl

lackey4 : meaning Lackey (codes "==12== Lackey") ≡ Ok None
lackey4 = refl

lackey5 : meaning Lackey (codes " ==12==") ≡ Err Label
lackey5 = refl

lackey6 : meaning Lackey (codes "l 10,1") ≡ Err Label
lackey6 = refl

lackey7 : meaning Lackey (codes "L") ≡ Err Address
lackey7 = refl

lackey8 : meaning Lackey (codes "L 0x10,1") ≡ Err Address
lackey8 = refl

lackey9 : meaning Lackey (codes "L ,1") ≡ Err Address
lackey9 = refl

lackey10 : meaning Lackey (codes "L 10") ≡ Err Size
lackey10 = refl

lackey11 : meaning Lackey (codes "L 10,") ≡ Err Size
lackey11 = refl

lackey12 : meaning Lackey (codes "L 10,4,5") ≡ Err Size
lackey12 = refl

lackey13 : meaning Lackey (codes "L 10,1234567890") ≡ Err Size
lackey13 = refl

lackey14 : meaning Lackey (codes "L 10, 4") ≡ Err Size
lackey14 = refl

-- a load of a din line
abbrev load : ℕ → Entry
load addr = entry.Item (record { op = Load; addr = addr; size = 0 })

-- a failure after `0 10` LF `0 x`, and after a further LF
cut1 : cut_reading Din 9 (codes "0 10" ++ 10 ∷ codes "0 x")
    ≡ record { entries = (1, load 16) ∷ []; fault = Some (fault.Read 2) }
cut1 = refl

cut2 : cut_reading Din 9 (codes "0 10" ++ 10 ∷ codes "0 x" ++ 10 ∷ [])
    ≡ record { entries = (1, load 16) ∷ []; fault = Some (fault.Line 2 Address) }
cut2 = refl

-- at most two lines
limit1 : reading Din 2 (codes "0 1" ++ 10 ∷ codes "0 2" ++ 10 ∷ [])
    ≡ record { entries = (1, load 1) ∷ (2, load 2) ∷ []; fault = None }
limit1 = refl

limit2 : reading Din 2 (codes "0 1" ++ 10 ∷ codes "0 2" ++ 10 ∷ 32 ∷ [])
    ≡ record { entries = (1, load 1) ∷ (2, load 2) ∷ []; fault = Some (fault.TooManyLines 2) }
limit2 = refl

limit3 : reading Din 2 (codes "0 1" ++ 10 ∷ codes "9 2" ++ 10 ∷ 32 ∷ [])
    ≡ record { entries = (1, load 1) ∷ []; fault = Some (fault.Line 2 Label) }
limit3 = refl

-- a line that is past the limit and too long is past the limit, whole or cut off
limit4 : reading Din 1 (codes "0 1" ++ 10 ∷ replicate 4097 32 ++ 10 ∷ [])
    ≡ record { entries = (1, load 1) ∷ []; fault = Some (fault.TooManyLines 1) }
limit4 = refl

limit5 : cut_reading Din 1 (codes "0 1" ++ 10 ∷ replicate 4097 32)
    ≡ record { entries = (1, load 1) ∷ []; fault = Some (fault.TooManyLines 1) }
limit5 = refl

-- one that is too long and cut off before its failure is too long
cut3 : cut_reading Din 9 (replicate 4097 32) ≡ record {
  entries = [];
  fault =
      Some (fault.TooLong 1);
}
cut3 = refl

-- a line of 4,096 bytes and one of 4,097
long1 : reading Din 2 (codes "0 10" ++ replicate 4092 32 ++ 10 ∷ [])
    ≡ record { entries = (1, load 16) ∷ []; fault = None }
long1 = refl

long2 : reading Din 2 (codes "0 10" ++ replicate 4093 32 ++ 10 ∷ [])
    ≡ record { entries = []; fault = Some (fault.TooLong 1) }
long2 = refl
