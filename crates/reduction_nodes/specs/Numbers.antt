-- The numbers of a node as the code computes them from its edges, and of all nodes of a side, some of them made anew.
use Rattle.std.specs.Prelude.{ℕ, ◌+◌, ◌<◌, ◌≡◌, ◌≢◌, Bool, not, cond, ◌&&◌, ◌||◌, true, false, List, [], length, get_or, set, eqb, leb, ltb}
use Rattle.std.proofs.Common.{arith, ap, ◌∙◌, length-set, get_or-set_same, get_or-set_other}
use Rattle.lists.specs.Test.{by-eq}
use Rattle.lists.specs.Search.{low}
use Rattle.model.specs.Limits.{node_limit}
use Rattle.arrays.specs.ArrayInstance.{at, flag}
use Rattle.reduction_lists.specs.Listed.{Shelved, tallied}
use Rattle.reduction_lists.specs.Walks.{at_node}
use Rattle.reduction_cells.specs.Cells.{Spread, bar_of, best_of, worst_of}
use Rattle.reduction_nodes.specs.declared.Surveyor.{Surveyor}
use Rattle.reduction_nodes.specs.declared.Stand.{Stand}
use Rattle.reduction_nodes.specs.Renewed.{Renewed, renewed_none, renewed_set, renewed_skip}

-- the table of a side can be read: its cells, and its lists
pub record Readable (m : ℕ) (table : List ℕ) : Type 0 where
  pub cells : Spread m table
  pub lists : Shelved m table

-- an edge of N(s)
abbrev pub in_n : (st : List ℕ) (rem ft lo : List Bool) → ℕ → Bool
in_n st rem ft lo d = flag rem d && (flag lo (at st d) || flag ft d)

-- rule 1 at a surveyor
abbrev pub first_of : (m : ℕ) (sv : List ℕ) (fs ft : List Bool) (v : ℕ) → ℕ
first_of m sv fs ft v = low (at_node sv v (λ d. flag fs d && flag ft d)) m

-- rule 2 at one end, with the arrows that come in there
abbrev pub second_of : (m : ℕ) (end rank cell : List ℕ) (rem f : List Bool) (q v : ℕ) → ℕ
second_of m end rank cell rem f q v = low (at_node end v (λ d. flag rem d && leb (bar_of m cell (flag f) v q) (at rank d))) m

abbrev pub surveyor_of : (m : ℕ) (sv st cell : List ℕ) (rem fs ft lo : List Bool) (q v : ℕ) → Surveyor
surveyor_of m sv st cell rem fs ft lo q v = record {
  rule4 = cond (ltb q (tallied sv v (in_n st rem ft lo) m)) (worst_of m cell (in_n st rem ft lo) v) m;
  rule5 = low (at_node sv v (λ d. flag rem d && (not (flag lo (at st d)) && (not (flag fs d) && not (flag ft d))))) m;
  rule6 = cond (ltb (tallied sv v (in_n st rem ft lo) m) q) (best_of m cell (flag rem) v) m;
}

abbrev pub stand_of : (m : ℕ) (st cell : List ℕ) (rem fs ft : List Bool) (q v : ℕ) → Stand
stand_of m st cell rem fs ft q v = record {
  rule3 = cond (leb (tallied st v (flag fs) m + tallied st v (flag ft) m) q) (low (at_node st v (λ d. flag rem d && flag fs d)) m) m;
  rule7 = cond (ltb (tallied st v (flag fs) m) q) (best_of m cell (flag rem) v) m;
  loose = ltb (tallied st v (flag ft) m) q && eqb (tallied st v (flag fs) m) 0;
}

-- with the quotas of all nodes of the side
abbrev pub seconds_of : (m : ℕ) (end rank cell : List ℕ) (rem f : List Bool) (q : List ℕ) → ℕ → ℕ
seconds_of m end rank cell rem f q v = second_of m end rank cell rem f (at q v) v

abbrev pub surveyors_of : (m : ℕ) (sv st cell : List ℕ) (rem fs ft lo : List Bool) (q : List ℕ) → ℕ → Surveyor
surveyors_of m sv st cell rem fs ft lo q v = surveyor_of m sv st cell rem fs ft lo (at q v) v

abbrev pub stands_of : (m : ℕ) (st cell : List ℕ) (rem fs ft : List Bool) (q : List ℕ) → ℕ → Stand
stands_of m st cell rem fs ft q v = stand_of m st cell rem fs ft (at q v) v

-- ---- numbers of several rules in the rows of one array, by node
abbrev pub row : (xs : List (List ℕ)) (k : ℕ) → List ℕ
row xs k = get_or xs k []

-- n rows, each with an entry for every node
pub record Rows (n : ℕ) (xs : List (List ℕ)) : Type 0 where
  pub rows : length xs ≡ n
  pub size : (k : ℕ) → k < n → length (row xs k) ≡ node_limit

-- a row that was written, and the others
pub row_own : (xs : List (List ℕ)) (k : ℕ) (x : List ℕ) → k < length xs → row (set xs k x) k ≡ x
row_own xs k x l = get_or-set_same xs k x [] l

-- another row
pub row_other : (xs : List (List ℕ)) (k j : ℕ) (x : List ℕ) → j ≢ k → row (set xs k x) j ≡ row xs j
row_other xs k j x n = get_or-set_other xs k j x [] n

-- a row written keeps their number and size
pub rows_set : (n : ℕ) (xs : List (List ℕ)) (k : ℕ) (x : List ℕ) → k < n → Rows n xs → length x ≡ node_limit → Rows n (set xs k x)
rows_set n xs k x l R i = record {
  rows = length-set xs k x ∙ R.rows;
  size = λ j h. by-eq j k
      (λ e t. ap (λ (z : ℕ). length (row (set xs k x) z)) e ∙ ap length (row_own xs k x (omega (arith, R.rows))) ∙ i)
      (λ ne t. ap length (row_other xs k j x ne) ∙ R.size j h);
}

-- the later numbers of all nodes of a side
pub record Surveyors : Type 0 where
  pub rule4 : List ℕ
  pub rule5 : List ℕ
  pub rule6 : List ℕ

-- those of stands, with their looseness
pub record Stands : Type 0 where
  pub rule3 : List ℕ
  pub rule7 : List ℕ
  pub loose : List Bool

abbrev pub surveyor_numbers : (late : List (List ℕ)) → Surveyors
surveyor_numbers late = record { rule4 = row late 0; rule5 = row late 1; rule6 = row late 2 }

abbrev pub stand_numbers : (late : List (List ℕ)) (loose : List Bool) → Stands
stand_numbers late loose = record { rule3 = row late 0; rule7 = row late 1; loose = loose }

-- of the nodes below n, those in `due` are made anew
pub record Surveyed (new : ℕ → Surveyor) (due : List Bool) (x : Surveyors) (n : ℕ) (y : Surveyors) : Type 0 where
  pub rule4 : Renewed 0 due (λ v. (new v).rule4) x.rule4 n y.rule4
  pub rule5 : Renewed 0 due (λ v. (new v).rule5) x.rule5 n y.rule5
  pub rule6 : Renewed 0 due (λ v. (new v).rule6) x.rule6 n y.rule6

pub record Stood (new : ℕ → Stand) (due : List Bool) (x : Stands) (n : ℕ) (y : Stands) : Type 0 where
  pub rule3 : Renewed 0 due (λ v. (new v).rule3) x.rule3 n y.rule3
  pub rule7 : Renewed 0 due (λ v. (new v).rule7) x.rule7 n y.rule7
  pub loose : Renewed false due (λ v. (new v).loose) x.loose n y.loose

-- ---- one node after the other: its numbers are stored, row by row
abbrev pub stored : Surveyors → ℕ → Surveyor → Surveyors
stored y v s = record {
  rule4 = set y.rule4 v s.rule4;
  rule5 = set y.rule5 v s.rule5;
  rule6 = set y.rule6 v s.rule6;
}

abbrev pub put : Stands → ℕ → Stand → Stands
put y v s = record {
  rule3 = set y.rule3 v s.rule3;
  rule7 = set y.rule7 v s.rule7;
  loose = set y.loose v s.loose;
}

-- one number of one row
abbrev pub entered : List (List ℕ) → (k v x : ℕ) → List (List ℕ)
entered xs k v x = set xs k (set (row xs k) v x)

entered_rows : (n : ℕ) (xs : List (List ℕ)) (k v x : ℕ) → k < n → Rows n xs → Rows n (entered xs k v x)
entered_rows n xs k v x l R = rows_set n xs k (set (row xs k) v x) l R (length-set (row xs k) v x ∙ R.size k l)

module _ (late : List (List ℕ)) (v : ℕ) (s : Surveyor) (R : Rows 3 late) where
  abbrev one : List (List ℕ)
  one = entered late 0 v s.rule4

  abbrev two : List (List ℕ)
  two = entered one 1 v s.rule5

  pub stored_rows : Rows 3 (entered two 2 v s.rule6)
  stored_rows = entered_rows 3 two 2 v s.rule6 (omega arith)
      (entered_rows 3 one 1 v s.rule5 (omega arith) (entered_rows 3 late 0 v s.rule4 (omega arith) R))

  pub stored_is : surveyor_numbers (entered two 2 v s.rule6) ≡ stored (surveyor_numbers late) v s
  stored_is =
      let p4 = row_other two 2 0 (set (row two 2) v s.rule6) (λ (z : 0 ≡ 2). absurd (omega arith))
      ∙ row_other one 1 0 (set (row one 1) v s.rule5) (λ (z : 0 ≡ 1). absurd (omega arith))
      ∙ row_own late 0 (set (row late 0) v s.rule4) (omega (arith, R.rows)) in
      let p5 = row_other two 2 1 (set (row two 2) v s.rule6) (λ (z : 1 ≡ 2). absurd (omega arith))
      ∙ row_own one 1 (set (row one 1) v s.rule5) (omega (arith, R.rows, length-set late 0 (set (row late 0) v s.rule4)))
      ∙ ap (λ (x : List ℕ). set x v s.rule5) (row_other late 0 1 (set (row late 0) v s.rule4) (λ (z : 1 ≡ 0). absurd (omega arith))) in
      let p6 = row_own two 2 (set (row two 2) v s.rule6)
      (omega (arith, R.rows, length-set late 0 (set (row late 0) v s.rule4), length-set one 1 (set (row one 1) v s.rule5)))
      ∙ ap (λ (x : List ℕ). set x v s.rule6) (row_other one 1 2 (set (row one 1) v s.rule5) (λ (z : 2 ≡ 1). absurd (omega arith))
      ∙ row_other late 0 2 (set (row late 0) v s.rule4) (λ (z : 2 ≡ 0). absurd (omega arith))) in
      λ k. record { rule4 = p4 k; rule5 = p5 k; rule6 = p6 k }

module _ (late : List (List ℕ)) (loose : List Bool) (v : ℕ) (s : Stand) (R : Rows 2 late) where
  abbrev first : List (List ℕ)
  first = entered late 0 v s.rule3

  pub put_rows : Rows 2 (entered first 1 v s.rule7)
  put_rows = entered_rows 2 first 1 v s.rule7 (omega arith) (entered_rows 2 late 0 v s.rule3 (omega arith) R)

  pub put_is : stand_numbers (entered first 1 v s.rule7) (set loose v s.loose) ≡ put (stand_numbers late loose) v s
  put_is =
      let p3 = row_other first 1 0 (set (row first 1) v s.rule7) (λ (z : 0 ≡ 1). absurd (omega arith))
      ∙ row_own late 0 (set (row late 0) v s.rule3) (omega (arith, R.rows)) in
      let p7 = row_own first 1 (set (row first 1) v s.rule7) (omega (arith, R.rows, length-set late 0 (set (row late 0) v s.rule3)))
      ∙ ap (λ (x : List ℕ). set x v s.rule7) (row_other late 0 1 (set (row late 0) v s.rule3) (λ (z : 1 ≡ 0). absurd (omega arith))) in
      λ k. record { rule3 = p3 k; rule7 = p7 k; loose = set loose v s.loose }

module _ (new : ℕ → Surveyor) (due : List Bool) (x : Surveyors) where
  pub surveyed_none : Surveyed new due x 0 x
  surveyed_none = record {
    rule4 = renewed_none 0 due (λ v. (new v).rule4) x.rule4;
    rule5 = renewed_none 0 due (λ v. (new v).rule5) x.rule5;
    rule6 = renewed_none 0 due (λ v. (new v).rule6) x.rule6;
  }

  pub surveyed_next : (i : ℕ) (late : List (List ℕ)) (s : Surveyor) → i < node_limit → Rows 3 late → flag due i ≡ true → s ≡ new i
      → Surveyed new due x i (surveyor_numbers late) → Surveyed new due x (i + 1) (stored (surveyor_numbers late) i s)
  surveyed_next i late s l z t e R = record {
    rule4 = renewed_set 0 due (λ v. (new v).rule4) x.rule4 i (row late 0) s.rule4 (omega (arith, z.size 0 (omega arith))) t (ap
        (λ (k : Surveyor). k.rule4) e)
        R.rule4;
    rule5 = renewed_set 0 due (λ v. (new v).rule5) x.rule5 i (row late 1) s.rule5 (omega (arith, z.size 1 (omega arith))) t (ap
        (λ (k : Surveyor). k.rule5) e)
        R.rule5;
    rule6 = renewed_set 0 due (λ v. (new v).rule6) x.rule6 i (row late 2) s.rule6 (omega (arith, z.size 2 (omega arith))) t (ap
        (λ (k : Surveyor). k.rule6) e)
        R.rule6;
  }

  pub surveyed_skip : (i : ℕ) (y : Surveyors) → flag due i ≡ false → Surveyed new due x i y → Surveyed new due x (i + 1) y
  surveyed_skip i y t R = record {
    rule4 = renewed_skip 0 due (λ v. (new v).rule4) x.rule4 i y.rule4 t R.rule4;
    rule5 = renewed_skip 0 due (λ v. (new v).rule5) x.rule5 i y.rule5 t R.rule5;
    rule6 = renewed_skip 0 due (λ v. (new v).rule6) x.rule6 i y.rule6 t R.rule6;
  }

module _ (new : ℕ → Stand) (due : List Bool) (x : Stands) where
  pub stood_none : Stood new due x 0 x
  stood_none = record {
    rule3 = renewed_none 0 due (λ v. (new v).rule3) x.rule3;
    rule7 = renewed_none 0 due (λ v. (new v).rule7) x.rule7;
    loose = renewed_none false due (λ v. (new v).loose) x.loose;
  }

  pub stood_next : (i : ℕ) (late : List (List ℕ)) (loose : List Bool) (s : Stand) → i < node_limit → Rows 2 late → length loose ≡ node_limit
      → flag due i ≡ true → s ≡ new i → Stood new due x i (stand_numbers late loose) → Stood new due x (i + 1) (put (stand_numbers late loose) i s)
  stood_next i late loose s l z zl t e R = record {
    rule3 = renewed_set 0 due (λ v. (new v).rule3) x.rule3 i (row late 0) s.rule3 (omega (arith, z.size 0 (omega arith))) t (ap
        (λ (k : Stand). k.rule3) e) R.rule3;
    rule7 = renewed_set 0 due (λ v. (new v).rule7) x.rule7 i (row late 1) s.rule7 (omega (arith, z.size 1 (omega arith))) t (ap
        (λ (k : Stand). k.rule7) e) R.rule7;
    loose = renewed_set false due (λ v. (new v).loose) x.loose i loose s.loose (omega (arith, zl)) t (ap (λ (k : Stand). k.loose) e)
        R.loose;
  }

  pub stood_skip : (i : ℕ) (y : Stands) → flag due i ≡ false → Stood new due x i y → Stood new due x (i + 1) y
  stood_skip i y t R = record {
    rule3 = renewed_skip 0 due (λ v. (new v).rule3) x.rule3 i y.rule3 t R.rule3;
    rule7 = renewed_skip 0 due (λ v. (new v).rule7) x.rule7 i y.rule7 t R.rule7;
    loose = renewed_skip false due (λ v. (new v).loose) x.loose i y.loose t R.loose;
  }
