-- Lemma P: a node whose edges are, under other numbers, the edges of a node of another instance has the same vote there. Only ranks count, and
-- in no order; so edges may be renumbered, and other edges may stand beside them. By the least over the turns of a sorted list (theory_votes),
-- a node's vote depends on what each set has alone there, as sums over the ranks; and these sums agree edge by edge.
use Rattle.std.specs.Prelude.{ℕ, ◌+◌, ◌*◌, ◌≤◌, ◌<◌, ◌≡◌, refl, Bool, true, false, ◌&&◌, List, [], ◌∷◌, map, T}
use Rattle.std.proofs.Common.{arith, ap, ◌∙◌, eqb→eq}
use Rattle.std.proofs.Math.Path.{sym}
use Rattle.std.proofs.Math.Dec.{eqb}
use Rattle.lists.specs.Test.{bit, pk, bit_pk}
use Rattle.lists.specs.Sum.{◌∈◌, sum, sum_map, sum_cong, sum_pk, up_to, up_to_<, count}
use Rattle.lists.specs.Keep.{keep, sum_keep, ∈_keep}
use Rattle.lists.specs.Occur.{sum_by}
use Rattle.model.specs.Limits.{empty_rank}
use Rattle.model.specs.Instance.{Side, deg}
use Rattle.model.specs.Vote.{node_vote}
use Rattle.theory_votes.specs.Attained.{alone}
use Rattle.theory_votes.proofs.NodeByRotation.{node_vote_least}

-- every rank is before an empty place's
abbrev pub Placed : Side → Type 0
Placed K = (e : ℕ) → e < K.m → K.rank e < empty_rank

-- the same ranks of what each set has alone, in any order: the same vote
module _ (K H : Side) (M N P Q : ℕ → Bool) (v w : ℕ) (pK : Placed K) (pH : Placed H) where
  abbrev Alike : (A B C D : ℕ → Bool) → Type 0
  Alike A B C D = (φ : ℕ → ℕ) → sum (λ e. φ (K.rank e)) (alone K v A B) ≡ sum (λ e. φ (H.rank e)) (alone H w C D)

  pub same_ranks : deg K M v ≤ K.quota v → deg K N v ≤ K.quota v → deg H P w ≤ H.quota w → deg H Q w ≤ H.quota w → Alike M N P Q → Alike N M Q P
      → node_vote K M N v ≡ node_vote H P Q w
  same_ranks a b c d l r =
      let xs = map H.rank (alone H w P Q) in
      let ys = map H.rank (alone H w Q P) in
      node_vote_least K M N v pK a b xs ys (λ φ. sum_map φ H.rank (alone H w P Q) ∙ sym (l φ)) (λ φ. sum_map φ H.rank (alone H w Q P) ∙ sym (r φ))
      ∙ sym (node_vote_least H P Q w pH c d xs ys (λ φ. sum_map φ H.rank (alone H w P Q)) (λ φ. sum_map φ H.rank (alone H w Q P)))

-- node v of K is node w of H: its edges are H's there, each once, by ε
pub record Part (K H : Side) (ε : ℕ → ℕ) (v w : ℕ) : Type 0 where
  pub into : (e : ℕ) → e < K.m → K.end e ≡ v → ε e < H.m
  pub rank : (e : ℕ) → e < K.m → K.end e ≡ v → H.rank (ε e) ≡ K.rank e
  pub once : (u : ℕ) → u < H.m → sum (λ e. pk (eqb (K.end e) v) (bit (eqb (ε e) u))) (up_to K.m) ≡ bit (eqb (H.end u) w)

module _ (K H : Side) (ε : ℕ → ℕ) (v w : ℕ) (part : Part K H ε v w) where
  many : (u n : ℕ) (xs : List ℕ) → sum (λ e. pk (eqb (ε e) u) n) xs ≡ sum (λ e. bit (eqb (ε e) u)) xs * n
  many u n [] = omega arith
  many u n (x ∷ xs) = go (eqb (ε x) u) (many u n xs)
    where
      go : (b : Bool) → sum (λ e. pk (eqb (ε e) u) n) xs ≡ sum (λ e. bit (eqb (ε e) u)) xs * n
          → pk b n + sum (λ e. pk (eqb (ε e) u) n) xs ≡ (bit b + sum (λ e. bit (eqb (ε e) u)) xs) * n
      go true ih = omega arith
      go false ih = omega arith

  abbrev at_v : List ℕ
  at_v = keep (λ e. eqb (K.end e) v) (up_to K.m)

  at_v_law : (e : ℕ) → e ∈ at_v → (e < K.m) × (K.end e ≡ v)
  at_v_law e m = let k = ∈_keep (λ e. eqb (K.end e) v) (up_to K.m) m in (up_to_< K.m k.0, eqb→eq (K.end e) v k.1)

  module _ (p : ℕ → Bool) (φ : ℕ → ℕ) where
    -- what an edge of K counts, by its edge of H; what an edge of H counts at w
    abbrev g : ℕ → ℕ
    g e = pk (p (ε e)) (φ (H.rank (ε e)))

    abbrev here_k : ℕ → ℕ
    here_k e = pk (p (ε e) && eqb (K.end e) v) (φ (K.rank e))

    abbrev here_h : ℕ → ℕ
    here_h u = pk (p u && eqb (H.end u) w) (φ (H.rank u))

    one : (e : ℕ) → e < K.m → pk (eqb (K.end e) v) (g e) ≡ here_k e
    one e l = go (eqb (K.end e) v) (p (ε e)) (λ t. part.rank e l (eqb→eq (K.end e) v t))
      where
        go : (x y : Bool) → (T x → H.rank (ε e) ≡ K.rank e) → pk x (pk y (φ (H.rank (ε e)))) ≡ pk (y && x) (φ (K.rank e))
        go true true h = ap φ (h tt)
        go true false h = refl
        go false true h = refl
        go false false h = refl

    -- the one edge that becomes u, if u lies at w
    each : (u : ℕ) → u < H.m → sum (λ e. pk (eqb (ε e) u) (g e)) at_v ≡ here_h u
    each u l =
        let r = φ (H.rank u) in
        sum_cong (λ e. pk (eqb (ε e) u) (g e)) (λ e. pk (p u) (pk (eqb (ε e) u) r)) at_v (λ e m. same (eqb (ε e) u) (λ t. eqb→eq (ε e) u t))
        ∙ sum_pk (p u) (λ e. pk (eqb (ε e) u) r) at_v
        ∙ ap (λ z. pk (p u) z) (many u r at_v
        ∙ ap (λ n. n * r) (sum_keep (λ e. bit (eqb (ε e) u)) (λ e. eqb (K.end e) v) (up_to K.m) ∙ part.once u l))
        ∙ last (p u) (eqb (H.end u) w)
      where
        same : {e : ℕ} (x : Bool) → (T x → ε e ≡ u) → pk x (g e) ≡ pk (p u) (pk x (φ (H.rank u)))
        same {e} true h = ap (λ z. pk (p z) (φ (H.rank z))) (h tt)
        same {e} false h = none (p u)
          where
            none : (b : Bool) → 0 ≡ pk b 0
            none true = refl
            none false = refl

        last : (x y : Bool) → pk x (bit y * φ (H.rank u)) ≡ pk (x && y) (φ (H.rank u))
        last true true = omega arith
        last true false = omega arith
        last false y = refl

    -- sums over the edges of a set at the node
    pub at : sum here_k (up_to K.m) ≡ sum here_h (up_to H.m)
    at =
        sym (sum_keep g (λ e. eqb (K.end e) v) (up_to K.m)
        ∙ sum_cong (λ e. pk (eqb (K.end e) v) (g e)) here_k (up_to K.m) (λ e m. one e (up_to_< K.m m)))
        ∙ sym (sum_by H.m ε g at_v (λ e m. part.into e (at_v_law e m).0 (at_v_law e m).1))
        ∙ sum_cong (λ u. sum (λ e. pk (eqb (ε e) u) (g e)) at_v) here_h (up_to H.m) (λ u m. each u (up_to_< H.m m))

  -- as many edges, the same ranks alone, the same vote
  pub part_deg : (p : ℕ → Bool) → deg K (λ e. p (ε e)) v ≡ deg H p w
  unfolding deg count
  part_deg p =
      sum_cong (λ e. bit (p (ε e) && eqb (K.end e) v)) (λ e. pk (p (ε e) && eqb (K.end e) v) 1) (up_to K.m) (λ e m. bit_pk (p (ε e) && eqb (K.end e) v))
      ∙ at p (λ a. 1)
      ∙ sum_cong (λ u. pk (p u && eqb (H.end u) w) 1) (λ u. bit (p u && eqb (H.end u) w)) (up_to H.m) (λ u m. sym (bit_pk (p u && eqb (H.end u) w)))
