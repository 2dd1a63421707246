-- The geometry of a cache: 2^s sets of e lines, each of a block of 2^b bytes (CS:APP).
use Rattle.std.specs.Prelude.{ℕ, ◌≤◌, ◌+◌, ◌*◌, ◌/◌, ◌%◌, ◌^◌, Bool, ◌&&◌, nat_le, Option, None}
use Rattle.std.specs.Prelude.{Some, if◌then◌else◌}

-- its numbers: the set index bits, the lines of a set and the block bits
pub record GeometryValue : Type 0 where
  pub s : ℕ
  pub e : ℕ
  pub b : ℕ

-- these three numbers, in the order of the CS:APP cache lab: s, E, b
abbrev pub geometry_value : ℕ → ℕ → ℕ → GeometryValue
geometry_value s e b = record { s = s; e = e; b = b }

-- the limits of a geometry: at most 2^20 sets, blocks of at most 2^20 bytes, 1 to 65,536 lines per
-- set and at most 2^22 in all
pub record IsGeometry (g : GeometryValue) : Type 0 where
  pub sets : g.s ≤ 20
  pub blocks : g.b ≤ 20
  pub some : 1 ≤ g.e
  pub ways : g.e ≤ 65536
  pub lines : g.e * 2 ^ g.s ≤ 2 ^ 22

-- whether a geometry is within the limits
abbrev pub is_geometry : GeometryValue → Bool
is_geometry g = nat_le g.s 20 && nat_le g.b 20 && nat_le 1 g.e && nat_le g.e 65536 && nat_le
    (g.e * 2 ^ g.s) (2 ^ 22)

-- the geometry of three numbers, if it is within the limits
abbrev pub geometry_of : ℕ → ℕ → ℕ → Option GeometryValue
geometry_of s e b = if is_geometry (geometry_value s e b) then Some (geometry_value s e b) else None

-- the size in bytes
abbrev pub size_of : GeometryValue → ℕ
size_of g = g.e * 2 ^ (g.s + g.b)

-- the number of the block that holds an address
abbrev pub block_of : GeometryValue → ℕ → ℕ
block_of g addr = addr / 2 ^ g.b

-- the set of a block
abbrev pub set_of_block : GeometryValue → ℕ → ℕ
set_of_block g block = block % 2 ^ g.s

-- the set of an address
abbrev pub set_of : GeometryValue → ℕ → ℕ
set_of g addr = set_of_block g (block_of g addr)

-- the address of a block
abbrev pub address_of : GeometryValue → ℕ → ℕ
address_of g block = block * 2 ^ g.b
