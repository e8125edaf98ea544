-- What links are: the first edge of each node, and behind each edge the next one of its node; m where there is none. And what a loop that goes by them
-- needs: between one of a node's edges and the next there is none of them.
use Rattle.std.specs.Prelude.{ℕ, zero, suc, ◌+◌, ◌-◌, ◌≤◌, ◌<◌, ◌≡◌, refl, ◌≢◌, Bool, true, ◌&&◌, List, length, set, replicate, eqb, leb}
use Rattle.std.proofs.Common.{zero-le, arith, sym, ap, ◌∙◌, subst, get_or-set_same, get_or-set_other, eqb→eq, leb→le, le→leb, T_not}
use Rattle.std.proofs.Math.Decide.{dec_lt}
use Rattle.std.proofs.Math.Logic.{by_cases}
use Rattle.std.proofs.lemmas.List.{get_or-replicate}
use Rattle.lists.specs.Test.{by-eq, eqb_yes, and_l, and_r, nand_r, true_t}
use Rattle.lists.specs.Search.{low, low_is}
use Rattle.model.specs.Limits.{entry_limit, node_limit}
use Rattle.arrays.specs.ArrayInstance.{at}
use Rattle.arrays.specs.Firsts.{first_none, firsts_stored}

-- d is an edge of v, and not before i
abbrev pub from_at : (end : List ℕ) (i v : ℕ) → ℕ → Bool
from_at end i v d = leb i d && eqb (at end d) v

-- the lowest edge of v from i on
abbrev pub first_from : (m : ℕ) (end : List ℕ) (i v : ℕ) → ℕ
first_from m end i v = low (from_at end i v) m

-- the links of the edges from i on; of all edges
pub record LinkedFrom (m : ℕ) (end : List ℕ) (i : ℕ) (head next : List ℕ) : Type 0 where
  pub edges : m ≤ entry_limit
  pub heads : (v : ℕ) → v < node_limit → at head v ≡ first_from m end i v
  pub nexts : (e : ℕ) → i ≤ e → e < m → at next e ≡ first_from m end (e + 1) (at end e)

-- the links of all edges: the first of each node, and behind each edge the next of its node
abbrev pub Linked : (m : ℕ) (end head next : List ℕ) → Type 0
Linked m end head next = LinkedFrom m end 0 head next

-- ---- they are made from the last edge to the first: the first edges by node, each edge of a node stored under it
module _ (m : ℕ) (end : List ℕ) where
  abbrev every : ℕ → Bool
  every d = true

  -- nothing is behind the last edge
  pub linked_none : m ≤ entry_limit → (next : List ℕ) → LinkedFrom m end m (replicate node_limit m) next
  linked_none h next = record {
    edges = h;
    heads = λ v w. get_or-replicate node_limit v m 0 w ∙ sym (first_none m (at end) every v);
    nexts = λ e h k. absurd (omega arith);
  }

  pub linked_on : (i : ℕ) (head next : List ℕ) → i < m → at end i < node_limit → length head ≡ node_limit → m ≤ length next
      → LinkedFrom m end (i + 1) head next → LinkedFrom m end i (set head (at end i) i) (set next i (at head (at end i)))
  linked_on i head next l w lh ln L = record {
    edges = L.edges;
    heads = firsts_stored m (at end) every node_limit i head l w lh refl L.heads;
    nexts =
        λ e h k. by-eq e i
        (λ q t. ap (at (set next i (at head (at end i)))) q ∙ get_or-set_same next i (at head (at end i)) 0 (omega arith)
        ∙ L.heads (at end i) w ∙ ap (λ z. first_from m end (z + 1) (at end z)) (sym q))
        (λ n t. get_or-set_other next i e (at head (at end i)) 0 n ∙ L.nexts e (omega arith) k);
  }

-- ---- e is the first edge of v from i on, or m
pub record First (m : ℕ) (end : List ℕ) (i v e : ℕ) : Type 0 where
  pub inside : e ≤ m
  pub onward : i ≤ m → i ≤ e
  pub none : (d : ℕ) → i ≤ d → d < e → at end d ≢ v
  pub here : e < m → at end e ≡ v

first_is : (m : ℕ) (end : List ℕ) (i v : ℕ) → First m end i v (first_from m end i v)
first_is m end i v =
    let e = first_from m end i v in
    let (inside, before, hit) = low_is (from_at end i v) m in
    record {
      inside = inside;
      onward = λ h. by_cases (dec_lt e m) (λ l. leb→le i e (and_l (leb i e) (eqb (at end e) v) (hit l))) (λ n. omega arith);
      none = λ d l k q. T_not (eqb (at end d) v) (nand_r (leb i d) (eqb (at end d) v) (before d k) (le→leb i d l)) (true_t (eqb_yes (at end d) v q));
      here = λ l. eqb→eq (at end e) v (and_r (leb i e) (eqb (at end e) v) (hit l));
    }

-- by the links: the first edge of a node, and the one after an edge of it
module _ (m : ℕ) (end head next : List ℕ) (L : Linked m end head next) (v : ℕ) where
  -- the head of v is its first edge, m if it has none
  pub first_head : v < node_limit → First m end 0 v (at head v)
  first_head h = subst (First m end 0 v) (sym (L.heads v h)) (first_is m end 0 v)

  -- the link behind an edge of v is the next edge of v, m if there is none
  pub first_next : (e : ℕ) → e < m → at end e ≡ v → First m end (e + 1) v (at next e)
  first_next e h q = subst (First m end (e + 1) v) (sym (L.nexts e zero-le h ∙ ap (first_from m end (e + 1)) q)) (first_is m end (e + 1) v)

-- what stays true past each edge of another node is true at the next edge of v
pub past_others : (m : ℕ) (end : List ℕ) (i v e : ℕ) (P : ℕ → Type 0) → i ≤ m → First m end i v e
    → ((d : ℕ) → d < m → at end d ≢ v → P d → P (d + 1)) → P i → P e
past_others m end i v e P h F step p = go (e - i) i (omega arith) (omega (arith, F.onward h)) p
  where
    go : (k d : ℕ) → i ≤ d → d + k ≡ e → P d → P e
    go zero d l s q = let z : d ≡ e = omega arith in subst P z q
    go (suc k) d l s q = go k (d + 1) (omega arith) (omega arith) (step d (omega (arith, F.inside)) (F.none d l (omega arith)) q)
