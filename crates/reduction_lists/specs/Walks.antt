-- Walks along the list of a node's edges: to the first edge that passes a test, or counting those that do.
use Prim.Native.Nat.{ℕ, suc, ◌+◌, ◌≤◌, ◌<◌, zero-le}
use native.Mathlib.Omega.{arith}
use Rattle.std.proofs.Math.Decide.{dec_lt}
use Rattle.std.specs.Prelude.{◌≡◌, ◌≢◌, Bool, ◌&&◌, List, eqb}
use Rattle.std.proofs.Math.Path.{refl, sym, ap}
use Rattle.std.proofs.Common.{ap₂, ◌∙◌, subst}
use Rattle.std.proofs.Math.Logic.{by_cases}
use Rattle.std.proofs.Math.Bool.{true, false, and-false}
use mir.Val.{bool_byte}
use Rattle.lists.specs.Test.{by-eq, eqb_yes, eqb_no, bit}
use Rattle.lists.specs.Search.{low, low_hit, low_none}
use Rattle.lists.specs.Sum.{count, count_≤}
use Rattle.model.specs.Limits.{node_limit, entry_limit}
use Rattle.arrays.specs.ArrayInstance.{at}
use Rattle.arrays.specs.Tally.{byte_bit, byte_one}
use Rattle.arrays.specs.Linked.{First, first_head, first_next}
use Rattle.reduction_lists.specs.Listed.{Listed, Shelved, table_size, begin, tallied, tallied_jump, before, before_less, first_before, next_before}

-- a test at a node alone
abbrev pub at_node : (end : List ℕ) (v : ℕ) (q : ℕ → Bool) → ℕ → Bool
at_node end v q d = eqb (at end d) v && q d

-- the one answer of a test of edges: whatever a call of it may return is what q says
abbrev pub Decides : (m : ℕ) (post : ℕ → Bool → Type 0) (q : ℕ → Bool) → Type 0
Decides m post q = (e : ℕ) (b : Bool) → e < m → post e b → b ≡ q e

-- the place behind k, where e is, has a later edge, or m
abbrev pub Next : (m : ℕ) (table : List ℕ) (k e : ℕ) → Type 0
Next m table k e = (k + 1 < table_size) × (at table (k + 1) ≤ m) × (e < at table (k + 1)) × (m ≤ entry_limit)

-- ---- a walk along a list: it stands at place k, at the edge e of v, or at its end
pub record Stood (m : ℕ) (end table : List ℕ) (v k e : ℕ) : Type 0 where
  pub inside : e ≤ m
  pub here : e < m → at end e ≡ v
  pub place : k ≡ begin table v + before end v e

-- before e nothing passes the test q
pub record Walked (m : ℕ) (end table : List ℕ) (v : ℕ) (q : ℕ → Bool) (k e : ℕ) : Type 0 where
  pub at_edge : Stood m end table v k e
  pub none : (d : ℕ) → d < e → at_node end v q d ≡ false

-- a walk that counts: of the edges before e, c pass
pub record Counted (m : ℕ) (end table : List ℕ) (v : ℕ) (q : ℕ → Bool) (k e c : ℕ) : Type 0 where
  pub at_edge : Stood m end table v k e
  pub is : c ≡ tallied end v q e

module _ {m : ℕ} {end table : List ℕ} (L : Listed m end table) {v : ℕ} (w : v < node_limit) where
  -- the list has an edge of v, and m behind all of them, in its place
  spelled : (i e : ℕ) → First m end i v e → at table (begin table v + before end v e) ≡ e
  spelled i e F = let N = L.nodes v w in by_cases (dec_lt e m)
      (λ l. N.spelled e l (F.here l))
      (λ h. let z : e ≡ m = omega (arith, F.inside) in ap (λ x. at table (begin table v + before end v x)) z ∙ N.ends ∙ sym z)

  first_of : First m end 0 v (at L.head v)
  first_of = first_head m end L.head L.next L.linked v w

  next_of : (e : ℕ) → e < m → at end e ≡ v → First m end (e + 1) v (at L.next e)
  next_of e l i = first_next m end L.head L.next L.linked v e l i

  -- so its first place has the first edge, and the place behind an edge has the next one
  list_first : at table (begin table v) ≡ at L.head v
  list_first = let z : begin table v ≡ begin table v + before end v (at L.head v) = omega (arith, first_before L.linked v w) in
      ap (at table) z ∙ spelled 0 (at L.head v) first_of

  list_next : (k e : ℕ) → e < m → Stood m end table v k e → at table (k + 1) ≡ at L.next e
  list_next k e l S =
      let i = S.here l in
      let z : k + 1 ≡ begin table v + before end v (at L.next e) = omega (arith, S.place, next_before L.linked v e l i) in
      ap (at table) z ∙ spelled (e + 1) (at L.next e) (next_of e l i)

  starts : First m end 0 v (at table (begin table v))
  starts = subst (First m end 0 v) (sym list_first) first_of

  on : (k e : ℕ) → e < m → Stood m end table v k e → First m end (e + 1) v (at table (k + 1))
  on k e l S = subst (First m end (e + 1) v) (sym (list_next k e l S)) (next_of e l (S.here l))

  next_later : (k e : ℕ) → e < m → Stood m end table v k e → e < at table (k + 1)
  next_later k e l S = omega (arith, (on k e l S).onward (omega arith))

  -- the first place is in the table, and so is the next one; they have edges, or m
  first_place : (begin table v < table_size) × (at table (begin table v) ≤ m) × (m ≤ entry_limit)
  first_place = (omega (arith, (L.nodes v w).room), starts.inside, L.linked.edges)

  next_place : (k e : ℕ) → e < m → Stood m end table v k e → Next m table k e
  next_place k e l S = (
    omega (arith, S.place, before_less end v e m l (S.here l), (L.nodes v w).room),
    (on k e l S).inside,
    next_later k e l S,
    L.linked.edges,
  )

  stood_first : Stood m end table v (begin table v) (at table (begin table v))
  stood_first = record {
    inside = starts.inside;
    here = starts.here;
    place = omega (arith, first_before L.linked v w, ap (before end v) list_first);
  }

  stood_next : (k e : ℕ) → e < m → Stood m end table v k e → Stood m end table v (k + 1) (at table (k + 1))
  stood_next k e l S = let F = on k e l S in record {
    inside = F.inside;
    here = F.here;
    place = omega (arith, S.place, next_before L.linked v e l (S.here l), ap (before end v) (list_next k e l S));
  }

  off : (q : ℕ → Bool) (d : ℕ) → at end d ≢ v → at_node end v q d ≡ false
  off q d n = ap (λ b. b && q d) (eqb_no (at end d) v n)

  -- no list goes on to the end of the table
  stood_over : (k e : ℕ) → table_size ≤ k → Stood m end table v k e → e ≡ m
  stood_over k e h S = by_cases (dec_lt e m)
      (λ l. absurd (omega (arith, h, S.place, before_less end v e m l (S.here l), (L.nodes v w).room)))
      (λ n. omega (arith, S.inside))

  module _ {q : ℕ → Bool} where
    pub walk_over : {k e : ℕ} → table_size ≤ k → Walked m end table v q k e → m ≤ e
    walk_over {k} {e} h W = omega (arith, stood_over k e h W.at_edge)

    pub count_over : {k e c : ℕ} → table_size ≤ k → Counted m end table v q k e c → m ≤ e
    count_over {k} {e} h W = omega (arith, stood_over k e h W.at_edge)

    pub walk_starts : Walked m end table v q (begin table v) (at table (begin table v))
    walk_starts = record { at_edge = stood_first; none = λ d l. off q d (starts.none d zero-le l) }

    -- one place on
    pub walk_on : {k e : ℕ} → e < m → Walked m end table v q k e → q e ≡ false → Walked m end table v q (k + 1) (at table (k + 1))
    walk_on {k} {e} l W f =
        let F = on k e l W.at_edge in
        record {
          at_edge = stood_next k e l W.at_edge;
          none = λ d dl. by_cases (dec_lt d e) (W.none d) (λ h. by-eq d e
              (λ i t. ap (λ b. eqb (at end d) v && b) (ap q i ∙ f) ∙ and-false (eqb (at end d) v))
              (λ ne t. off q d (F.none d (past e d ne h) dl)));
        }
      where
        past : (e d : ℕ) → d ≢ e → (d < e → ⊥) → e + 1 ≤ d
        past e d ne h = by_cases (dec_lt e d) (λ k. omega arith) (λ k. absurd (ne (omega arith)))

    -- ---- counting
    pub count_starts : Counted m end table v q (begin table v) (at table (begin table v)) 0
    unfolding count
    count_starts = record {
      at_edge = stood_first;
      is = sym (tallied_jump end v q 0 (at table (begin table v)) zero-le (λ d a l. starts.none d a l));
    }

    pub count_on : {k e c : ℕ} → e < m → Counted m end table v q k e c → Counted m end table v q (k + 1) (at table (k + 1)) (c + bool_byte (q e))
    unfolding count
    count_on {k} {e} {c} l W =
        let S = W.at_edge in
        let F = on k e l S in
        record {
          at_edge = stood_next k e l S;
          is = omega (
            arith,
            W.is,
            byte_bit (q e),
            tallied_jump end v q (suc e) (at table (k + 1)) (omega (arith, next_later k e l S)) (λ d a b. F.none d (omega arith) b),
            one (q e) (eqb (at end e) v) (eqb_yes (at end e) v (S.here l)),
          );
        }
      where
        one : (a b : Bool) → b ≡ true → bit (a && b) ≡ bit a
        one true b i = ap bit i
        one false b i = refl

-- ---- where a walk ends: at an edge that passes, or behind all of them
module _ {m : ℕ} {end table : List ℕ} {v : ℕ} {q : ℕ → Bool} where
  pub walk_hit : {k e : ℕ} → e < m → Walked m end table v q k e → q e ≡ true → e ≡ low (at_node end v q) m
  walk_hit {k} {e} l W t =
      sym (low_hit (at_node end v q) e m (low_none (at_node end v q) e W.none) (ap₂ ◌&&◌ (eqb_yes (at end e) v (W.at_edge.here l)) t) l)

  pub walk_ends : {k e : ℕ} → m ≤ e → Walked m end table v q k e → m ≡ low (at_node end v q) m
  walk_ends {k} {e} h W = sym (low_none (at_node end v q) m (λ d l. W.none d (omega arith)))

  pub count_ends : {k e c : ℕ} → m ≤ e → Counted m end table v q k e c → c ≡ tallied end v q m
  count_ends {k} {e} {c} h W = let i : e ≡ m = omega (arith, W.at_edge.inside) in W.is ∙ ap (tallied end v q) i

  pub count_small : {k e c : ℕ} → Counted m end table v q k e c → (c ≤ e) × (bool_byte (q e) ≤ 1)
  count_small {k} {e} {c} W = (omega (arith, W.is, count_≤ (λ d. q d && eqb (at end d) v) e), byte_one (q e))

-- ---- what a loop that counts keeps along v's list, of all ends whose lists these are
abbrev pub Counts : (m : ℕ) (table : List ℕ) (v : ℕ) (q : ℕ → Bool) (k e c : ℕ) → Type 0
Counts m table v q k e c = (end : List ℕ) → Listed m end table → Counted m end table v q k e c

-- so the next place is in the table, and few are counted
module _ {m : ℕ} {table : List ℕ} {v : ℕ} (p : (v < node_limit) × Shelved m table) where
  pub next_counted : {q : ℕ → Bool} {k e c : ℕ} → Counts m table v q k e c → e < m → Next m table k e
  next_counted {q} {k} {e} W l = next_place p.1.1 p.0 k e l (W p.1.0 p.1.1).at_edge

  pub few_counted : {q : ℕ → Bool} {k e c : ℕ} → Counts m table v q k e c → (c ≤ e) × (bool_byte (q e) ≤ 1)
  few_counted W = count_small (W p.1.0 p.1.1)
