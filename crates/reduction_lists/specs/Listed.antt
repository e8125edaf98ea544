-- The edges of each node side by side: behind its cells a table has for each node the place where its list begins, and from there on the node's edges,
-- ascending, and behind them m. And how that is made, along the links of the edges (crate edge_links): node by node, edge by edge.
use Prim.Native.Nat.{ℕ, zero, suc, ◌+◌, ◌≤◌, ◌<◌, zero-le}
use Rattle.std.proofs.Common.{arith, eq-or-lt_of_le, sym, ap, ◌∙◌, subst, ⊎_elim, length-set, get_or-set_same, get_or-set_other, lt-ltb, le-ltb}
use Rattle.std.proofs.Math.Decide.{dec_lt}
use Rattle.std.specs.Prelude.{◌≡◌, refl, ◌≢◌, Bool, true, false, ◌&&◌, List, length, set, eqb, ltb}
use Rattle.std.proofs.Math.Logic.{by_cases}
use Rattle.std.proofs.Math.Bool.{and-false}
use Rattle.lists.specs.Test.{by-eq, eqb_yes, eqb_no, bit}
use Rattle.lists.specs.Sum.{count, count_≤, count_add, count_cong, count_none}
use Rattle.model.specs.Limits.{entry_limit, node_limit}
use Rattle.arrays.specs.ArrayInstance.{at}
use Rattle.arrays.specs.Linked.{Linked, first_head, first_next}
use Rattle.reduction_cells.specs.Cells.{cell_count}

-- where the lists begin; a place for each edge, and one more for each node
abbrev list_start : ℕ
list_start = 1088

-- how many places a table has
abbrev pub table_size : ℕ
table_size = 2144

-- where the list of a node begins
abbrev pub begin : (table : List ℕ) (v : ℕ) → ℕ
begin table v = at table (cell_count + v)

-- how many edges of a node below e pass a test
abbrev pub tallied : (end : List ℕ) (v : ℕ) (q : ℕ → Bool) → ℕ → ℕ
tallied end v q e = count (λ d. q d && eqb (at end d) v) e

-- how many there are
abbrev pub before : (end : List ℕ) (v : ℕ) → ℕ → ℕ
before end v = tallied end v (λ d. true)

-- where nothing of v lies between, the count stays
pub tallied_jump : (end : List ℕ) (v : ℕ) (q : ℕ → Bool) (i n : ℕ) → i ≤ n → ((d : ℕ) → i ≤ d → d < n → at end d ≢ v)
    → tallied end v q n ≡ tallied end v q i
unfolding count
tallied_jump end v q i zero h f = ap (tallied end v q) (let e : 0 ≡ i = omega arith in e)
tallied_jump end v q i (suc n) h f = ⊎_elim
    (λ e. ap (tallied end v q) (sym e))
    (λ k. omega (
      arith,
      tallied_jump end v q i n (omega arith) (λ d a b. f d a (omega arith)),
      ap bit (ap (λ b. q n && b) (eqb_no (at end n) v (f n (omega arith) (omega arith))) ∙ and-false (q n)),
    ))
    (eq-or-lt_of_le h)

-- one edge of v on
before_one : (end : List ℕ) (v e : ℕ) → at end e ≡ v → before end v (suc e) ≡ before end v e + 1
unfolding count
before_one end v e i = omega (arith, ap bit (eqb_yes (at end e) v i))

before_more : (end : List ℕ) (v i n : ℕ) → i ≤ n → before end v i ≤ before end v n
unfolding count
before_more end v i zero h = let e : i ≡ 0 = omega arith in omega (arith, ap (before end v) e)
before_more end v i (suc n) h = ⊎_elim (λ e. omega (arith, ap (before end v) e)) (λ k. omega (arith, before_more end v i n (omega arith))) (eq-or-lt_of_le h)

pub before_less : (end : List ℕ) (v d e : ℕ) → d < e → at end d ≡ v → before end v d < before end v e
before_less end v d e l i = omega (arith, before_one end v d i, before_more end v (suc d) e l)

-- of the edges of v below e each stands in a place as far behind k as there are before it
abbrev pub Spelled : (end : List ℕ) (v k e : ℕ) (list : List ℕ) → Type 0
Spelled end v k e list = (d : ℕ) → d < e → at end d ≡ v → at list (k + before end v d) ≡ d

-- the list of a node, from place k on
pub record NodeListed (m : ℕ) (end : List ℕ) (v k : ℕ) (list : List ℕ) : Type 0 where
  pub room : k + before end v m < table_size
  pub spelled : Spelled end v k m list
  pub ends : at list (k + before end v m) ≡ m

-- the lists of all nodes of a side
pub record Listed (m : ℕ) (end table : List ℕ) : Type 0 where
  pub head : List ℕ
  pub next : List ℕ
  pub linked : Linked m end head next
  pub nodes : (v : ℕ) → v < node_limit → NodeListed m end v (begin table v) table

-- a walk goes along lists of whatever ends, and what it finds is so for all ends whose lists they are
abbrev pub Shelved : (m : ℕ) (table : List ℕ) → Type 0
Shelved m table = (end : List ℕ) × Listed m end table

-- ---- along the links of one node
module _ {m : ℕ} {end head next : List ℕ} (L : Linked m end head next) (v : ℕ) where
  pub first_before : v < node_limit → before end v (at head v) ≡ 0
  unfolding count
  first_before w = let F = first_head m end head next L v w in
      tallied_jump end v (λ d. true) 0 (at head v) zero-le (λ d a l. F.none d a l)

  pub next_before : (e : ℕ) → e < m → at end e ≡ v → before end v (at next e) ≡ before end v e + 1
  next_before e l i = let F = first_next m end head next L v e l i in
      tallied_jump end v (λ d. true) (suc e) (at next e) (omega (arith, F.onward (omega arith))) (λ d a b. F.none d (omega arith) b) ∙ before_one end v e i

-- ---- the list of v is made from place k on: the edges below e are there
pub record Spelling (m : ℕ) (end : List ℕ) (v k : ℕ) (list₀ : List ℕ) (e i : ℕ) (list : List ℕ) : Type 0 where
  pub inside : e ≤ m
  pub here : e < m → at end e ≡ v
  pub place : i ≡ k + before end v e
  pub size : length list ≡ table_size
  pub spelled : Spelled end v k e list
  pub kept : (j : ℕ) → j < k → at list j ≡ at list₀ j

-- what it is then: the list of v, and the places before it as they were
pub record Put (m : ℕ) (end : List ℕ) (v k : ℕ) (list₀ : List ℕ) (i : ℕ) (list : List ℕ) : Type 0 where
  pub place : i ≡ k + before end v m + 1
  pub size : length list ≡ table_size
  pub node : NodeListed m end v k list
  pub kept : (j : ℕ) → j < k → at list j ≡ at list₀ j

module _ {m : ℕ} {end head next : List ℕ} (L : Linked m end head next) (v : ℕ) (k : ℕ) (list₀ : List ℕ) (room : k + before end v m < table_size) where
  pub spelling_starts : v < node_limit → length list₀ ≡ table_size → Spelling m end v k list₀ (at head v) k list₀
  spelling_starts w n = let F = first_head m end head next L v w in record {
    inside = F.inside;
    here = F.here;
    place = omega (arith, first_before L v w);
    size = n;
    spelled = λ d l i. absurd (F.none d zero-le l i);
    kept = λ j l. refl;
  }

  module _ (e i : ℕ) (list : List ℕ) (S : Spelling m end v k list₀ e i list) where
    pub spelling_room : i < table_size
    spelling_room = omega (arith, room, S.place, before_more end v e m S.inside)

    -- a place more: the edge's own, or m behind all of them
    stored : (x d : ℕ) → d < e → at end d ≡ v → at (set list i x) (k + before end v d) ≡ d
    stored x d l j = get_or-set_other list i (k + before end v d) x 0 (λ q. absurd (omega (arith, q, S.place, before_less end v d e l j))) ∙ S.spelled d l j

    own : (x : ℕ) → at (set list i x) (k + before end v e) ≡ x
    own x = ap (at (set list i x)) (sym S.place) ∙ get_or-set_same list i x 0 (omega (arith, S.size, spelling_room))

    others : (x j : ℕ) → j < k → at (set list i x) j ≡ at list₀ j
    others x j l = get_or-set_other list i j x 0 (λ q. absurd (omega (arith, q, S.place))) ∙ S.kept j l

    pub spelling_on : e < m → Spelling m end v k list₀ (at next e) (i + 1) (set list i e)
    spelling_on l =
        let j = S.here l in
        let F = first_next m end head next L v e l j in
        record {
          inside = F.inside;
          here = F.here;
          place = omega (arith, S.place, next_before L v e l j);
          size = length-set list i e ∙ S.size;
          spelled = λ d dl q. by-eq d e
              (λ z t. ap (λ x. at (set list i e) (k + before end v x)) z ∙ own e ∙ sym z)
              (λ n t. by_cases (dec_lt d e) (λ h. stored e d h q)
              (λ h. absurd (F.none d (by_cases (dec_lt e d) (λ a. omega arith) (λ a. absurd (n (omega arith)))) dl q)));
          kept = others e;
        }

    pub spelling_ends : m ≤ e → Put m end v k list₀ (i + 1) (set list i m)
    spelling_ends h = let z : e ≡ m = omega (arith, S.inside) in record {
      place = omega (arith, S.place, ap (before end v) z);
      size = length-set list i m ∙ S.size;
      node = record {
        room = room;
        spelled = λ d l q. stored m d (omega arith) q;
        ends = ap (λ x. at (set list i m) (k + before end v x)) (sym z) ∙ own m;
      };
      kept = others m;
    }

-- ---- node by node: how many edges the nodes below v have
abbrev below : (end : List ℕ) (v : ℕ) → ℕ → Bool
below end v d = ltb (at end d) v

one_node : (x v : ℕ) → bit (ltb x (v + 1)) ≡ bit (ltb x v) + bit (eqb x v)
one_node x v = by-eq x v
    (λ i t. omega (arith, ap bit (lt-ltb x (v + 1) (omega arith)), ap bit (le-ltb x v (omega arith)), ap bit t))
    (λ n t. by_cases (dec_lt x v)
    (λ h. omega (arith, ap bit (lt-ltb x (v + 1) (omega arith)), ap bit (lt-ltb x v h), ap bit t))
    (λ h. omega (
      arith,
      ap bit (le-ltb x (v + 1) (by_cases (dec_lt v x) (λ a. omega arith) (λ a. absurd (n (omega arith))))),
      ap bit (le-ltb x v (omega arith)),
      ap bit t,
    )))

-- the lists of the nodes below v are made, up to place k; the cells stay
pub record Listing (m : ℕ) (end table₀ : List ℕ) (v k : ℕ) (table : List ℕ) : Type 0 where
  pub place : k ≡ list_start + v + count (below end v) m
  pub size : length table ≡ table_size
  pub nodes : (u : ℕ) → u < v → NodeListed m end u (begin table u) table
  pub behind : (u : ℕ) → u < v → list_start ≤ begin table u
  pub past : (u : ℕ) → u < v → begin table u + before end u m < k
  pub kept : (j : ℕ) → j < cell_count → at table j ≡ at table₀ j

module _ (m : ℕ) (end table₀ : List ℕ) where
  pub listing_none : length table₀ ≡ table_size → Listing m end table₀ 0 list_start table₀
  listing_none n = record {
    place = omega (arith, count_cong (below end 0) (λ d. false) m (λ d l. le-ltb (at end d) 0 zero-le), count_none m);
    size = n;
    nodes = λ u l. absurd (omega arith);
    behind = λ u l. absurd (omega arith);
    past = λ u l. absurd (omega arith);
    kept = λ j l. refl;
  }

  module _ (v k : ℕ) (table : List ℕ) (S : Listing m end table₀ v k table) (w : v < node_limit) where
    more : count (below end (v + 1)) m ≡ count (below end v) m + before end v m
    more = count_add (below end v) (λ d. eqb (at end d) v) (below end (v + 1)) m (λ d l. one_node (at end d) v)

    pub listing_room : m ≤ entry_limit → k + before end v m < table_size
    listing_room h = omega (arith, S.place, more, count_≤ (below end (v + 1)) m)

    -- where its list begins is entered, and then the list is put there
    pub listing_next : (i : ℕ) (table' : List ℕ) → Put m end v k (set table (cell_count + v) k) i table' → Listing m end table₀ (v + 1) i table'
    listing_next i table' P = record {
      place = omega (arith, P.place, S.place, more);
      size = P.size;
      nodes = λ u l. by-eq u v
          (λ z t. subst (λ x. NodeListed m end x (begin table' x) table') (sym z) (subst (λ x. NodeListed m end v x table') (sym own) P.node))
          (λ n t. subst (λ x. NodeListed m end u x table') (sym (other u (before_it u n l))) (still u (before_it u n l)));
      behind = λ u l. by-eq u v
          (λ z t. omega (arith, ap (begin table') z, own, S.place))
          (λ n t. omega (arith, other u (before_it u n l), S.behind u (before_it u n l)));
      past = λ u l. by-eq u v
          (λ z t. omega (arith, P.place, ap (begin table') z, own, ap (λ x. before end x m) z))
          (λ n t. omega (arith, P.place, other u (before_it u n l), S.past u (before_it u n l)));
      kept = λ j l. P.kept j (omega (arith, S.place)) ∙ get_or-set_other table (cell_count + v) j k 0 (λ q. absurd (omega (arith, q))) ∙ S.kept j l;
    }
      where
        before_it : (u : ℕ) → u ≢ v → u < v + 1 → u < v
        before_it u n l = by_cases (dec_lt u v) (λ h. h) (λ h. absurd (n (omega arith)))

        own : begin table' v ≡ k
        own = P.kept (cell_count + v) (omega (arith, S.place)) ∙ get_or-set_same table (cell_count + v) k 0 (omega (arith, S.size))

        other : (u : ℕ) → u < v → begin table' u ≡ begin table u
        other u l = P.kept (cell_count + u) (omega (arith, S.place)) ∙ get_or-set_other table (cell_count + v) (cell_count + u) k 0
            (λ q. absurd (omega (arith, q)))

        -- among the lists of the nodes before v
        same : (j : ℕ) → list_start ≤ j → j < k → at table' j ≡ at table j
        same j h l = P.kept j l ∙ get_or-set_other table (cell_count + v) j k 0 (λ q. absurd (omega (arith, q)))

        still : (u : ℕ) → u < v → NodeListed m end u (begin table u) table'
        still u l = let N = S.nodes u l in record {
          room = N.room;
          spelled = λ d h q. same (begin table u + before end u d) (omega (arith, S.behind u l)) (omega (arith, S.past u l, before_less end u d m h q))
              ∙ N.spelled d h q;
          ends = same (begin table u + before end u m) (omega (arith, S.behind u l)) (S.past u l) ∙ N.ends;
        }
