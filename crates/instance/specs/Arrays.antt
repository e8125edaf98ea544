-- The arrays made from an accepted roster's bytes show its instance: the tables of positions give each edge its ranks, and the listed
-- cells are the edges in order.
use Rattle.std.specs.Prelude.{ℕ, suc, ◌+◌, ◌*◌, ◌/◌, ◌%◌, ◌≤◌, ◌<◌, min, ◌≡◌, Bool, true, List, [], map, T, eqb}
use Rattle.std.proofs.Common.{arith, add-one, sym, ap₂, ◌∙◌, subst, ⊎_elim, get_or-take, T_not}
use Rattle.std.proofs.Math.Decide.{dec_lt}
use Rattle.std.proofs.Math.Path.{refl, ap}
use Rattle.std.proofs.Math.Logic.{by_cases}
use Rattle.std.proofs.Math.Bool.{false, not, cond}
use lib.ListN.{length, get_or, replicate, length-replicate, length-map, get_or-map, get_or-eq_default}
use Rattle.lists.specs.Test.{given, eqb_no, T_true, T_false, false_t}
use Rattle.lists.specs.Keep.{All-getD}
use Rattle.lists.specs.Ranges.{map_at}
use Rattle.model.specs.Reading.{accepted}
use Rattle.model.specs.RosterFile.{shifted, read_roster}
use Rattle.model.specs.Limits.{entry_limit, shift_limit}
use Rattle.model.specs.Roster.{Entry, Ranking, Roster, surveyor_count, stand_count, list_s, list_t, has, listed, fits}
use Rattle.model.specs.Edges.{Edge, position, pair_edge, edges_of, no_edge, edge_at, instance_of}
use Rattle.theory_files.specs.Reads.{is_bytes, bytes_are}
use Rattle.theory_files.specs.Rosters.{read_write, read_fits}
use Rattle.theory_instance.specs.Lawful.{Lawful}
use Rattle.theory_files.specs.PlanFiles.{Fileable}
use Rattle.theory_files.specs.Position.{position_pos, position_out}
use Rattle.theory_files.specs.RosterInstance.{ns_small, nt_small, lists_count, rankings_count, strict_or_tied, tied_not_strict, strict_length_law, lawful, fileable}
use Rattle.theory_files.specs.Ascending.{IsEdge}
use Rattle.theory_files.specs.EdgeCount.{edges_few}
use Rattle.theory_files.specs.Cells.{Within, list_within, strict_within, listed_none, edges_cells}
use Rattle.theory_files.specs.Offsets.{lists_start, ranking_section, Offsets, offsets, rankings_from_law}
use Rattle.roster_positions.specs.Tables.{row_width, table_size, entry_of, lists_stamped, lists_end, strict_stamped, next_ranks}
use Rattle.roster_positions.specs.Rows.{all_stamped, position_in, all_at, lists_are, strict_lists, next_all, rankings_are, next_at_law}
use Rattle.arrays.specs.ArrayInstance.{at}
use Rattle.arrays.specs.Passes.{Shows, all_blank, shows_at, shows_behind, shown_is}
use Rattle.instance.specs.declared.Instance.{Instance}
use Rattle.instance.specs.Cells.{listed_cells, Listed, stand_of, shift_of, across, cell_edge, Filled}
use Rattle.instance.specs.Decoded.{shown_by, Decoded}

-- ---- small facts
edge_is : (x y : Edge) → x.surveyor ≡ y.surveyor → x.stand ≡ y.stand → x.shift ≡ y.shift → x.rank_s ≡ y.rank_s → x.rank_t ≡ y.rank_t
    → x.tied ≡ y.tied → x ≡ y
edge_is x y a b s c d e = λ k. record { surveyor = a k; stand = b k; shift = s k; rank_s = c k; rank_t = d k; tied = e k }

-- the entry of a node in a shift, both counted from 0, and its place in a row
abbrev entry : ℕ → ℕ → Entry
entry j k = record { number = suc j; shift = suc k }

place : (j k : ℕ) → k < shift_limit → entry_of (3 * j + k) ≡ entry j k
place j k h =
    let a : suc ((3 * j + k) / 3) ≡ suc j = omega arith in
    let b : suc ((3 * j + k) % 3) ≡ suc k = omega arith in
    λ i. record { number = a i; shift = b i }

-- a position that is there is above 0
there : (b : Bool) (p : ℕ) → 0 < p → not (eqb (cond b p 0) 0) ≡ b
there true p h = ap not (eqb_no p 0 (λ (q : p ≡ 0). omega arith))
there false p h = refl

-- the rank: the position, or the rank behind the list
rank_is : (b : Bool) (p next : ℕ) → 0 < p → (T (not b) → next ≡ p) → cond (eqb (cond b p 0) 0) next (cond b p 0) ≡ p
rank_is true p next h e = ap (λ z. cond z next p) (eqb_no p 0 (λ (q : p ≡ 0). omega arith))
rank_is false p next h e = e tt

tied_is : (b t : Bool) (p : ℕ) → 0 < p → (T b → T (not t)) → (T (not b) → T t) → eqb (cond b p 0) 0 ≡ t
tied_is true t p h n y = eqb_no p 0 (λ (q : p ≡ 0). omega arith) ∙ sym (T_false (n tt))
tied_is false t p h n y = sym (T_true (y tt))

-- ---- what the tables hold
module _ (f : List ℕ) (r : Roster) (ok : T (fits r)) (O : Offsets shifted f r) where
  abbrev ns : ℕ
  ns = surveyor_count r

  abbrev nt : ℕ
  nt = stand_count r

  abbrev listed_table : List ℕ
  listed_table = lists_stamped f ns 0 (lists_start r) (replicate table_size 0)

  abbrev start : ℕ
  start = lists_end f ns (lists_start r) + 2

  abbrev strict_table : List ℕ
  strict_table = strict_stamped f nt 0 start (replicate table_size 0)

  abbrev next_table : List ℕ
  next_table = next_ranks f nt 0 start (replicate 32 0)

  from_bytes : (listed_table ≡ all_stamped 0 r.lists_s (replicate table_size 0))
      × (strict_table ≡ all_stamped 0 (strict_lists r.lists_t) (replicate table_size 0)) × (next_table ≡ next_all 0 r.lists_t (replicate 32 0))
  from_bytes =
      given (lists_are r.lists_s f (lists_start r) (ranking_section shifted r) O.lists 0 (replicate table_size 0)) (λ (a, b).
      given (ap (λ k. lists_end f k (lists_start r)) (sym (lists_count r ok))) (λ c.
      given (rankings_from_law shifted f r (lists_end f ns (lists_start r)) (subst (λ k. drop' k) (sym c) b)) (λ d.
      given (rankings_are r.lists_t f start [] d 0 0 (replicate table_size 0) (replicate 32 0)) (λ (x, y). (
        ap (λ k. lists_stamped f k 0 (lists_start r) (replicate table_size 0)) (sym (lists_count r ok)) ∙ a,
        ap (λ k. strict_stamped f k 0 start (replicate table_size 0)) (sym (rankings_count r ok)) ∙ x,
        ap (λ k. next_ranks f k 0 start (replicate 32 0)) (sym (rankings_count r ok)) ∙ y,
      )))))
    where
      drop' : ℕ → Type 0
      drop' k = lib.ListN.drop k f ≡ ranking_section shifted r

  listed_at : (i c : ℕ) → c < row_width → at listed_table (i * row_width + c) ≡ position_in (list_s r i) (entry_of c)
  listed_at i c h =
      ap (λ t. at t (i * row_width + c)) from_bytes.0
      ∙ ap (at (all_stamped 0 r.lists_s (replicate table_size 0))) (none i c)
      ∙ all_at r.lists_s 0 (replicate table_size 0) (omega (arith, lists_count r ok, ns_small r ok, length-replicate {A = ℕ} table_size 0))
      (All-getD (Within 32) [] r.lists_s (λ i l. list_within r ok 32 i (nt_small r ok) (omega (arith, lists_count r ok))))
      (λ c k. all_blank 0 table_size c) i c h
    where
      none : (i c : ℕ) → i * row_width + c ≡ 0 + i * row_width + c
      none i c = omega arith

  abbrev no_ranking : Ranking
  no_ranking = record { strict = []; tied = [] }

  strict_list : (j : ℕ) → get_or (strict_lists r.lists_t) j [] ≡ (list_t r j).strict
  strict_list j = get_or-map (λ R. R.strict) r.lists_t j no_ranking

  strict_at_law : (j c : ℕ) → c < row_width → at strict_table (j * row_width + c) ≡ position_in (list_t r j).strict (entry_of c)
  strict_at_law j c h =
      ap (λ t. at t (j * row_width + c)) from_bytes.1
      ∙ ap (at (all_stamped 0 (strict_lists r.lists_t) (replicate table_size 0))) (none j c)
      ∙ all_at (strict_lists r.lists_t) 0 (replicate table_size 0)
      (omega (arith, length-map r.lists_t (λ R. R.strict), rankings_count r ok, nt_small r ok, length-replicate {A = ℕ} table_size 0))
      (All-getD (Within 32) [] (strict_lists r.lists_t)
      (λ j l. subst (Within 32) (sym (strict_list j))
      (strict_within r ok 32 j (ns_small r ok) (omega (arith, length-map r.lists_t (λ R. R.strict), rankings_count r ok)))))
      (λ c k. all_blank 0 table_size c) j c h
      ∙ ap (λ xs. position_in xs (entry_of c)) (strict_list j)
    where
      none : (j c : ℕ) → j * row_width + c ≡ 0 + j * row_width + c
      none j c = omega arith

  next_is : (j : ℕ) → j < nt → at next_table j ≡ suc (length (list_t r j).strict)
  next_is j h =
      ap (λ t. at t j) from_bytes.2
      ∙ ap (at (next_all 0 r.lists_t (replicate 32 0))) (none j)
      ∙ next_at_law r.lists_t 0 (replicate 32 0) (omega (arith, rankings_count r ok, nt_small r ok, length-replicate {A = ℕ} 32 0)) j
      (omega (arith, rankings_count r ok))
      ∙ small (length (list_t r j).strict) (omega (arith, strict_length_law r ok j h))
    where
      none : (j : ℕ) → j ≡ 0 + j
      none j = omega arith

      small : (k : ℕ) → k ≤ 32 → (k + 1) % 256 ≡ suc k
      small k l = omega arith

  -- ---- a cell's edge is its pair's
  abbrev g : ℕ → Edge
  g = cell_edge listed_table strict_table next_table

  abbrev cell_of : ℕ → ℕ → ℕ → ℕ
  cell_of i j k = i * row_width + (3 * j + k)

  row_is : (i j k : ℕ) → j < 32 → k < shift_limit → cell_of i j k / row_width ≡ i
  row_is i j k h l = omega arith

  stand_is : (i j k : ℕ) → j < 32 → k < shift_limit → stand_of (cell_of i j k) ≡ j
  stand_is i j k h l = omega arith

  shift_is : (i j k : ℕ) → k < shift_limit → shift_of (cell_of i j k) ≡ k
  shift_is i j k l = omega arith

  listed_cell : (i j k : ℕ) → j < 32 → k < shift_limit → at listed_table (cell_of i j k) ≡ position_in (list_s r i) (entry j k)
  listed_cell i j k h l = listed_at i (3 * j + k) (omega arith) ∙ ap (position_in (list_s r i)) (place j k l)

  strict_cell : (i j k : ℕ) → i < 32 → j < 32 → k < shift_limit → at strict_table (across (cell_of i j k)) ≡ position_in (list_t r j).strict (entry i k)
  strict_cell i j k h l m =
      ap (at strict_table)
      (ap₂ (λ a b. a * row_width + b) (stand_is i j k l m) (ap₂ (λ a b. 3 * a + b) (row_is i j k l m) (shift_is i j k m)))
      ∙ strict_at_law j (3 * i + k) (omega arith) ∙ ap (position_in (list_t r j).strict) (place i k m)

  cell_listed : (i j k : ℕ) → j < 32 → k < shift_limit → not (eqb (at listed_table (cell_of i j k)) 0) ≡ listed r i j (suc k)
  unfolding listed
  cell_listed i j k h l =
      ap (λ z. not (eqb z 0)) (listed_cell i j k h l)
      ∙ there (has (entry j k) (list_s r i)) (position (entry j k) (list_s r i)) (position_pos (entry j k) (list_s r i))

  some_stand : (i j k : ℕ) → i < ns → T (listed r i j k) → j < nt
  some_stand i j k h t =
      by_cases (dec_lt j nt) (λ l. l) (λ n. absurd (T_not (listed r i j k) (false_t (listed_none r ok i j k h (omega arith))) t))

  rank_s_is : (i j k : ℕ) → j < 32 → k < shift_limit → T (listed r i j (suc k)) → at listed_table (cell_of i j k) ≡ position (entry j k) (list_s r i)
  unfolding listed
  rank_s_is i j k h l t =
      listed_cell i j k h l ∙ ap (λ b. cond b (position (entry j k) (list_s r i)) 0) (T_true {b = has (entry j k) (list_s r i)} t)

  cell_edge_law : (i j k : ℕ) → i < ns → j < 32 → k < shift_limit → T (listed r i j (suc k)) → g (cell_of i j k) ≡ pair_edge r i j (suc k)
  cell_edge_law i j k h m l t =
      let n = some_stand i j (suc k) h t in
      let S = (list_t r j).strict in
      let x = entry i k in
      let stamp = strict_cell i j k (omega (arith, ns_small r ok)) m l in
      let edge : IsEdge r (pair_edge r i j (suc k))
      = record { i = i; j = j; k = suc k; i_in = h; j_in = n; k_from = omega arith; k_in = l; pair = t; is = refl } in
      edge_is (g (cell_of i j k)) (pair_edge r i j (suc k)) (row_is i j k m l) (stand_is i j k m l)
      (ap (λ z. z + 1) (shift_is i j k l) ∙ add-one k) (rank_s_is i j k m l t)
      (ap₂ (λ z n. cond (eqb z 0) n z) stamp (ap (at next_table) (stand_is i j k m l) ∙ next_is j n)
      ∙ rank_is (has x S) (position x S) (suc (length S)) (position_pos x S) (λ n. sym (position_out x S n)))
      (ap (λ z. eqb z 0) stamp ∙ tied_is (has x S) (has x (list_t r j).tied) (position x S) (position_pos x S)
      (λ y. not_both (has x S) (has x (list_t r j).tied) y (tied_not_strict r ok x j n))
      (λ n. ⊎_elim (λ s. absurd (T_not (has x S) n s)) (λ d. d) (strict_or_tied r ok (pair_edge r i j (suc k)) edge)))
    where
      not_both : (a b : Bool) → T a → (T b → T (not a)) → T (not b)
      not_both true true y h = h tt
      not_both true false y h = tt
      not_both false b y h = absurd y

  edges_are : map g (listed_cells ns listed_table) ≡ edges_of r
  edges_are = edges_cells r ok 32 (nt_small r ok) (λ c. not (eqb (at listed_table c) 0)) g
      (λ i j k h m l. (cell_listed i j k m l, cell_edge_law i j k h m l))

  -- ---- the arrays
  module _ (m : ℕ) (cell : List ℕ) (L : Listed ns listed_table m cell) where
    edge_count : m ≡ length (edges_of r)
    edge_count = L.count ∙ sym (length-map (listed_cells ns listed_table) g) ∙ ap length edges_are

    array_is : {A : Type 0} (d : A) (field : Edge → A) → field no_edge ≡ d → (o : List A) → Shows d o m (λ e. field (g (at cell e))) → (e : ℕ)
        → get_or o e d ≡ field (edge_at (edges_of r) e)
    array_is d field z o s e = by_cases (dec_lt e m)
        (λ h. shows_at d o (λ e. field (g (at cell e))) m e s h
        ∙ ap (λ c. field (g c)) (sym (get_or-take m cell e 0 h) ∙ ap (λ xs. get_or xs e 0) L.cells)
        ∙ ap field (sym (map_at g (listed_cells ns listed_table) e 0 no_edge (omega (arith, L.count))) ∙ ap (λ es. edge_at es e) edges_are))
        (λ n. shows_behind d o (λ e. field (g (at cell e))) m e s (omega arith) ∙ sym z
        ∙ sym (ap field (get_or-eq_default (edges_of r) no_edge (omega (arith, edge_count)))))

-- ---- quotas
quotas_are : (f : List ℕ) (off n : ℕ) (qs o : List ℕ) → length qs ≡ n → ((i : ℕ) → i < n → get_or f (off + i) 0 ≡ get_or qs i 0)
    → Shows 0 o n (λ i. get_or f (off + i) 0) → (i : ℕ) → at o i ≡ get_or qs i 0
quotas_are f off n qs o l h s i = by_cases (dec_lt i n)
    (λ k. shows_at 0 o (λ i. get_or f (off + i) 0) n i s k ∙ h i k)
    (λ k. shows_behind 0 o (λ i. get_or f (off + i) 0) n i s (omega arith) ∙ sym (get_or-eq_default qs 0 (omega arith)))

-- ---- what the code computes, part by part
pub record Parts (f : List ℕ) (g : Instance) : Type 0 where
  pub ns : ℕ
  pub nt : ℕ
  pub start : ℕ
  pub listed : List ℕ
  pub strict : List ℕ
  pub next : List ℕ
  pub k : ℕ
  pub m : ℕ
  pub cell : List ℕ
  pub qs : List ℕ
  pub qt : List ℕ
  pub ns_is : ns ≡ min (get_or f 0 0) 32
  pub qs_are : Shows 0 qs ns (λ i. get_or f (1 + i) 0)
  pub nt_is : nt ≡ min (get_or f (ns + 1) 0) 32
  pub qt_are : Shows 0 qt nt (λ i. get_or f (ns + 2 + i) 0)
  pub start_is : start ≡ lists_end f ns (ns + nt + 4)
  pub listed_is : listed ≡ lists_stamped f ns 0 (ns + nt + 4) (replicate table_size 0)
  pub strict_is : strict ≡ strict_stamped f nt 0 (start + 2) (replicate table_size 0)
  pub next_is : next ≡ next_ranks f nt 0 (start + 2) (replicate 32 0)
  pub found : Listed ns listed k cell
  pub m_is : m ≡ min k entry_limit
  pub made : Filled ns nt m cell listed strict next qs qt g

-- the arrays show the instance: first with everything at its value for the roster, then as it was computed
module _ (f : List ℕ) (r : Roster) (ok : T (fits r)) (O : Offsets shifted f r) (g : Instance) where
  abbrev Shown : ℕ → ℕ → List ℕ → List ℕ → List ℕ → Type 0
  Shown ns nt listed strict next = (k m : ℕ) (cell qs qt : List ℕ) → Shows 0 qs ns (λ i. get_or f (1 + i) 0) → Shows 0 qt nt (λ i. get_or f (ns + 2 + i) 0)
      → Listed ns listed k cell → m ≡ min k entry_limit → Filled ns nt m cell listed strict next qs qt g → shown_by g ≡ instance_of r

  -- where all cells found are edges
  all_values : (m : ℕ) (cell qs qt : List ℕ) → Shows 0 qs (surveyor_count r) (λ i. get_or f (1 + i) 0)
      → Shows 0 qt (stand_count r) (λ i. get_or f (surveyor_count r + 2 + i) 0) → Listed (surveyor_count r) (listed_table f r ok O) m cell
      → Filled (surveyor_count r) (stand_count r) m cell (listed_table f r ok O) (strict_table f r ok O) (next_table f r ok O) qs qt g → shown_by g ≡ instance_of r
  unfolding instance_of
  all_values m cell qs qt a b L F =
      shown_is g.m g.ns g.nt g.sv g.st g.rank_s g.rank_t g.sh g.tied g.quota_s g.quota_t (instance_of r)
      (F.edges ∙ edge_count f r ok O m cell L) F.surveyors F.stands
      (array_is f r ok O m cell L 0 (λ x. x.surveyor) refl g.sv F.sv)
      (array_is f r ok O m cell L 0 (λ x. x.stand) refl g.st F.st)
      (array_is f r ok O m cell L 0 (λ x. x.rank_s) refl g.rank_s F.rank_s)
      (array_is f r ok O m cell L 0 (λ x. x.rank_t) refl g.rank_t F.rank_t)
      (array_is f r ok O m cell L 0 (λ x. x.shift) refl g.sh F.sh)
      (array_is f r ok O m cell L false (λ x. x.tied) refl g.tied F.tied)
      (λ i. ap (λ q. at q i) F.quota_s ∙ quotas_are f 1 (surveyor_count r) r.quotas_s qs refl O.quotas_s a i)
      (λ j. ap (λ q. at q j) F.quota_t ∙ quotas_are f (surveyor_count r + 2) (stand_count r) r.quotas_t qt refl O.quotas_t b j)

  -- and a roster has no more than the arrays have room for
  at_values : Shown (surveyor_count r) (stand_count r) (listed_table f r ok O) (strict_table f r ok O) (next_table f r ok O)
  at_values k m cell qs qt a b L h F =
      let e : m ≡ k = omega (arith, edge_count f r ok O k cell L, edges_few r ok) in
      all_values k cell qs qt a b L
      (subst (λ z. Filled (surveyor_count r) (stand_count r) z cell (listed_table f r ok O) (strict_table f r ok O) (next_table f r ok O) qs qt g) e F)

  pub parts_show : Parts f g → shown_by g ≡ instance_of r
  parts_show P =
      let a : P.ns ≡ surveyor_count r = P.ns_is ∙ ap (λ k. min k 32) O.surveyors ∙ least (surveyor_count r) (ns_small r ok) in
      let b : P.nt ≡ stand_count r = P.nt_is ∙ ap (λ k. min (get_or f (k + 1) 0) 32) a ∙ ap (λ k. min k 32) O.stands ∙ least (stand_count r) (nt_small r ok) in
      let s : P.start ≡ lists_end f (surveyor_count r) (lists_start r) = P.start_is ∙ ap₂ (λ x y. lists_end f x (x + y + 4)) a b in
      let l : P.listed ≡ listed_table f r ok O = P.listed_is ∙ ap₂ (λ x y. lists_stamped f x 0 (x + y + 4) (replicate table_size 0)) a b in
      let t : P.strict ≡ strict_table f r ok O = P.strict_is ∙ ap₂ (λ y z. strict_stamped f y 0 (z + 2) (replicate table_size 0)) b s in
      let n : P.next ≡ next_table f r ok O = P.next_is ∙ ap₂ (λ y z. next_ranks f y 0 (z + 2) (replicate 32 0)) b s in
      let same : Shown P.ns P.nt P.listed P.strict P.next ≡ Shown (surveyor_count r) (stand_count r) (listed_table f r ok O)
      (strict_table f r ok O) (next_table f r ok O)
      = λ k. Shown (a k) (b k) (l k) (t k) (n k) in
      subst (λ X. X) (sym same) at_values P.k P.m P.cell P.qs P.qt P.qs_are P.qt_are P.found P.m_is
      P.made
    where
      least : (k : ℕ) → k ≤ 32 → min k 32 ≡ k
      least k h = omega arith

pub decoded : (f : List ℕ) (g : Instance) → ((i : ℕ) → get_or f i 0 < 256) → Parts f g → Decoded f g
decoded f g small P = record {
  edges = omega (arith, P.made.edges, P.m_is);
  surveyors = omega (arith, P.made.surveyors, P.ns_is);
  stands = omega (arith, P.made.stands, P.nt_is);
  low_sv = λ e. low 32 (omega arith) g.sv (λ e. at P.cell e / row_width) P.made.sv
      (λ e h. given (P.found.below e (omega (arith, P.m_is))) (λ k. omega arith)) e;
  low_st = λ e. low 32 (omega arith) g.st (λ e. stand_of (at P.cell e)) P.made.st (λ e h. omega arith) e;
  low_sh = λ e. given (low 4 (omega arith) g.sh (λ e. shift_of (at P.cell e) + 1) P.made.sh (λ e h. omega arith) e) (λ h. omega arith);
  shows = λ r a.
      given (bytes_are f small) (λ is_b.
      parts_show f r (read_fits f r is_b a) (offsets shifted f r (read_write f r is_b a)) g P);
}
  where
    low : (b : ℕ) → 0 < b → (o : List ℕ) (v : ℕ → ℕ) → Shows 0 o P.m v → ((e : ℕ) → e < P.m → v e < b) → (e : ℕ) → at o e < b
    low b z o v s h e = by_cases (dec_lt e P.m)
        (λ k. subst (λ y. y < b) (sym (shows_at 0 o v P.m e s k)) (h e k))
        (λ k. subst (λ y. y < b) (sym (shows_behind 0 o v P.m e s (omega arith))) z)

-- ---- the laws that votes, rules and plan files ask of the arrays of an accepted roster
module _ (f : List ℕ) (g : Instance) (is_b : T (is_bytes f)) (D : Decoded f g) (r : Roster) (a : read_roster f ≡ accepted r) where
  pub decoded_lawful : Lawful (shown_by g)
  decoded_lawful = subst Lawful (sym (D.shows r a)) (lawful r (read_fits f r is_b a))

  pub decoded_fileable : Fileable (shown_by g)
  decoded_fileable = subst Fileable (sym (D.shows r a)) (fileable r (read_fits f r is_b a))
