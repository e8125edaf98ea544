-- What the loop that collects cells has collected at its end. Assumes nothing.
use Prim.Native.Nat.{ℕ, ◌*◌, ◌≤◌, ◌<◌}
use native.Mathlib.Omega.{arith}
use mathlib.Core.Path.{◌≡◌, sym, ap, ◌∙◌, subst}
use mathlib.Core.Bool.{not}
use mathlib.Core.List.{List}
use lib.ListN.{length, take, get_or}
use lib.Seq.{get_or-take}
use lib.Dec.{eqb}
use Rattle.lists.specs.Test.{given}
use Rattle.lists.specs.Sum.{range, ∈_range}
use Rattle.lists.specs.Keep.{keep, ∈_keep, get_d_∈}
use Rattle.roster_positions.specs.Tables.{row_width, table_size}
use Rattle.arrays.specs.ArrayInstance.{at}
use Rattle.arrays.specs.Passes.{Low}
use Rattle.arrays.specs.Kept.{Kept}
use Rattle.instance.specs.Cells.{listed_cells, Listed}

pub kept_listed : (n : ℕ) (table cell : List ℕ) (k c : ℕ) → n ≤ 32 → c ≡ n * row_width → Kept (λ c. not (eqb (at table c) 0)) cell k c → Listed n table k cell
kept_listed n table cell k c h q (a, b) = record { count = count; cells = cells; below = below }
  where
    count : k ≡ length (listed_cells n table)
    count = a ∙ ap (λ z. length (keep (λ c. not (eqb (at table c) 0)) (range 0 z))) q

    cells : take k cell ≡ listed_cells n table
    cells = b ∙ ap (λ z. keep (λ c. not (eqb (at table c) 0)) (range 0 z)) q

    below : Low k cell table_size
    below e l = subst (λ z. z < table_size) (ap (λ z. get_or z e 0) (sym cells) ∙ get_or-take k cell e 0 l)
        (given (get_d_∈ (listed_cells n table) e 0 (subst (λ z. e < z) count l)) (λ i.
        given (∈_range (n * row_width) 0 (∈_keep (λ c. not (eqb (at table c) 0)) (range 0 (n * row_width)) i).0).1 (λ u. omega arith)))
