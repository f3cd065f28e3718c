-- The usual arithmetic conversions (C11 6.3.1.8).
use Rattle.std.specs.Prelude.{ℕ, Bool, true, false, nat_lt, nat_le, if◌then◌else◌}
use Rattle.fc_base.specs.declared.levels.Width.{Width}
use Rattle.fc_base.specs.declared.levels.Width.TheVariants.{W4, W8}
use Rattle.fc_base.specs.Widths.{width_bytes}
use Rattle.c_arithmetic.specs.declared.operators.IntType.{IntType}
use Rattle.c_layout.specs.declared.types.CType.{CType, out-CType}
use Rattle.c_layout.specs.declared.types.CType.TheOpen.{CType-F}
use Rattle.c_layout.specs.declared.types.CType.TheVariants.{Int}
use Rattle.c_layout.specs.Types.{Layer, promoted}
use Rattle.c_tree.specs.declared.conversions.Rank.{Rank}
use Rattle.c_tree.specs.declared.conversions.Rank.TheVariants as ranks

abbrev number_layer : Layer → IntType
number_layer (CType-F.Int width signed plain_char long_long) = record { width = width; signed = signed }
number_layer _ = record { width = W8; signed = false }

-- how an integer, or a pointer as a number, is kept
abbrev pub number_type : CType → IntType
number_type t = number_layer (out-CType t)

-- the rank of an integer type once it is promoted (6.3.1.1p1)
abbrev rank_layer : Layer → Rank
rank_layer (CType-F.Int W8 signed plain_char true) = ranks.LongLong
rank_layer (CType-F.Int W8 signed plain_char false) = ranks.Long
rank_layer _ = ranks.Int

abbrev pub rank : CType → Rank
rank t = rank_layer (out-CType t)

abbrev pub rank_place : Rank → ℕ
rank_place ranks.Int = 0
rank_place ranks.Long = 1
rank_place ranks.LongLong = 2

abbrev pub rank_width : Rank → Width
rank_width ranks.Int = W4
rank_width ranks.Long = W8
rank_width ranks.LongLong = W8

-- the integer type of a rank, signed or not
abbrev pub ranked : Rank → Bool → CType
ranked ranks.Int signed = Int W4 signed false false
ranked ranks.Long signed = Int W8 signed false false
ranked ranks.LongLong signed = Int W8 signed false true

abbrev pub higher : Rank → Rank → Rank
higher a b = if nat_lt (rank_place a) (rank_place b) then b else a

-- of a signed type and an unsigned one: the unsigned one, if its rank is no lower; else the signed one, if it holds each value of the
-- other; else the unsigned one that corresponds to it
abbrev pub mixed : Rank → Rank → CType
mixed signed unsigned =
    if nat_le (rank_place signed) (rank_place unsigned) then ranked unsigned false
    else ranked signed (nat_lt (width_bytes (rank_width unsigned)) (width_bytes (rank_width signed)))

-- by the ranks, and whether the types are signed
abbrev pub balanced : Rank → Bool → Rank → Bool → CType
balanced a true b true = ranked (higher a b) true
balanced a false b false = ranked (higher a b) false
balanced a true b false = mixed a b
balanced a false b true = mixed b a

-- the common type of two integer types: the usual arithmetic conversions (6.3.1.8)
abbrev pub common : CType → CType → CType
common a b = balanced (rank a) (number_type (promoted a)).signed (rank b) (number_type (promoted b)).signed
