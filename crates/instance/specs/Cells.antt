-- The edges as cells of a grid: a surveyor's row has 96 columns, three for each stand, one a shift. And what the arrays hold of each cell.
use Rattle.std.specs.Prelude.{ℕ, ◌+◌, ◌*◌, ◌/◌, ◌%◌, ◌≡◌, false, not, cond, List, length, take, eqb}
use Rattle.lists.specs.Sum.{range}
use Rattle.lists.specs.Keep.{keep}
use Rattle.model.specs.Edges.{Edge}
use Rattle.roster_positions.specs.Tables.{row_width, table_size}
use Rattle.arrays.specs.ArrayInstance.{at}
use Rattle.arrays.specs.Passes.{Low, Shows}
use Rattle.instance.specs.declared.Instance.{Instance}

-- the cells of n rows at which a table is not 0
abbrev pub listed_cells : ℕ → List ℕ → List ℕ
listed_cells n table = keep (λ c. not (eqb (at table c) 0)) (range 0 (n * row_width))

pub record Listed (n : ℕ) (table : List ℕ) (k : ℕ) (cell : List ℕ) : Type 0 where
  pub count : k ≡ length (listed_cells n table)
  pub cells : take k cell ≡ listed_cells n table
  pub below : Low k cell table_size

-- the stand of a cell, and its shift from 0
abbrev pub stand_of : ℕ → ℕ
stand_of c = c / 3 % 32

abbrev pub shift_of : ℕ → ℕ
shift_of c = c % 3

-- the place in the stands' table that belongs to a cell
abbrev pub across : ℕ → ℕ
across c = stand_of c * row_width + (3 * (c / row_width) + shift_of c)

-- the edge of a cell, from the surveyors' positions, the stands', and the ranks behind the stands' strict parts
abbrev pub cell_edge : List ℕ → List ℕ → List ℕ → ℕ → Edge
cell_edge listed strict next c = record {
  surveyor = c / row_width;
  stand = stand_of c;
  shift = shift_of c + 1;
  rank_s = at listed c;
  rank_t = cond (eqb (at strict (across c)) 0) (at next (stand_of c)) (at strict (across c));
  tied = eqb (at strict (across c)) 0;
}

pub record Filled (ns nt m : ℕ) (cell listed strict next qs qt : List ℕ) (g : Instance) : Type 0 where
  pub edges : g.m ≡ m
  pub surveyors : g.ns ≡ ns
  pub stands : g.nt ≡ nt
  pub sv : Shows 0 g.sv m (λ e. (cell_edge listed strict next (at cell e)).surveyor)
  pub st : Shows 0 g.st m (λ e. (cell_edge listed strict next (at cell e)).stand)
  pub sh : Shows 0 g.sh m (λ e. (cell_edge listed strict next (at cell e)).shift)
  pub rank_s : Shows 0 g.rank_s m (λ e. (cell_edge listed strict next (at cell e)).rank_s)
  pub rank_t : Shows 0 g.rank_t m (λ e. (cell_edge listed strict next (at cell e)).rank_t)
  pub tied : Shows false g.tied m (λ e. (cell_edge listed strict next (at cell e)).tied)
  pub quota_s : g.quota_s ≡ qs
  pub quota_t : g.quota_t ≡ qt
