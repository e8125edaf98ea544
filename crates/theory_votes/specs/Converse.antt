-- Lemma X⁻: every set N within the quotas is the result of a valid exchange of M whose cost on a side is exactly the side's votes.
-- At each node it is read off a pairing that reaches the node's vote. It rests on scores (Score.antt) and on what an exchange is
-- (Exchange.antt).
use Rattle.std.specs.Prelude.{ℕ, ◌+◌, ◌≤◌, ◌<◌, ◌≡◌, refl, ◌⊎◌, Bool, not, ◌&&◌, List, length, eqb}
use Rattle.std.proofs.Common.{zero-le, arith, ◌∙◌, inl, inr, ⊎_elim, eqb→eq}
use Rattle.std.proofs.Math.Decide.{dec_lt}
use Rattle.std.proofs.Math.Path.{sym, ap}
use Rattle.std.proofs.Math.Logic.{⊎_map, by_cases}
use Rattle.std.proofs.Math.Bool.{and_comm}
use Rattle.lists.specs.Test.{bit, bit_one, pk, pk_0, pk_zero, pk_le, pk_and, pk_split, pk_when}
use Rattle.lists.specs.Sum.{◌∈◌, sum, sum_zeros, sum_add, sum_cong, sum_mono, sum_pk, sum_one, sum_length, up_to, occ}
use Rattle.lists.specs.Keep.{keep, sum_keep, gather, gather_∈, sum_gather}
use Rattle.lists.specs.Occur.{occ_<, sum_at, sum_only}
use Rattle.model.specs.Limits.{empty_rank}
use Rattle.model.specs.Instance.{Side, deg}
use Rattle.model.specs.Vote.{Place, edge, empty, same, here, Pairing, pairings, pair_faces_empty, empty_faces_pair, places_at}
use Rattle.theory_instance.specs.Lawful.{Ranked, Within}
use Rattle.theory_votes.specs.Score.{mark, mark_same, mark_lost, mark_gained, mark_edges, score}
use Rattle.theory_votes.specs.Places.{here_deg, times_empty, node_places, pairing_length}
use Rattle.theory_votes.specs.Fair.{NotBoth, Fair, Here, fair_left, fair_right, left_here, right_here}
use Rattle.theory_votes.specs.Attained.{attained}
use Rattle.theory_votes.specs.Exchange.{Couple, for, against, Swap, losses, gains, Moves}
use Rattle.theory_votes.specs.Couples.{couples_of, on_couple, couples_sum, couples_∈, losses_of, on_loss, losses_sum, losses_∈, Kind, shares}
use Rattle.theory_votes.specs.Couples.{swaps, loses, gets, void, kind}

-- the edges of M that N lacks: what goes from M to N, what comes from N to M
abbrev pub goers : ℕ → (ℕ → Bool) → (ℕ → Bool) → List ℕ
goers m M N = keep (λ e. M e && not (N e)) (up_to m)

goers_occ : (m : ℕ) (M N : ℕ → Bool) (e : ℕ) → occ e (goers m M N) ≡ pk (M e && not (N e)) (occ e (up_to m))
goers_occ m M N e = sum_keep (λ d. bit (eqb d e)) (λ d. M d && not (N d)) (up_to m) ∙ sum_at (λ d. M d && not (N d)) e (up_to m)

-- a test of d, where d alone counts
test_at : (S : ℕ → Bool) (d e : ℕ) → pk (not (S d)) (bit (eqb d e)) ≡ pk (not (S e)) (bit (eqb d e))
test_at S d e = pk_when (not (S d)) (not (S e)) (eqb d e) (λ t. ap (λ z. not (S z)) (eqb→eq d e t))

-- N is M without the edges that N lacks and with the edges that M lacks
pub swap_of : (m : ℕ) (M N : ℕ → Bool) → Swap m M N (goers m M N) (goers m N M)
swap_of m M N = record {
  goes = λ e. omega (arith, goers_occ m M N e, pk_split (M e) (N e) (occ e (up_to m)));
  comes = λ e. omega (arith, goers_occ m N M e, pk_split (N e) (M e) (occ e (up_to m)), ap (λ b. pk b (occ e (up_to m))) (and_comm (M e) (N e)));
}

module _ (K : Side) (M N : ℕ → Bool) (hM : Within K M) (hN : Within K N) where
  -- at each node a pairing that reaches its score
  pair : ℕ → Pairing
  pair v = (attained K M N v (hM v) (hN v)).0

  pair_in_law : (v : ℕ) → pair v ∈ pairings (places_at K M v) (places_at K N v)
  unfolding pair
  pair_in_law v = (attained K M N v (hM v) (hN v)).1

  pair_fair : (v : ℕ) → Fair M N (places_at K M v) (places_at K N v) (pair v)
  unfolding pair
  pair_fair v = (attained K M N v (hM v) (hN v)).2

  pair_score : (v : ℕ) → score K M N v ≡ sum (mark K.rank) (pair v)
  unfolding pair
  pair_score v = (attained K M N v (hM v) (hN v)).3

  pair_left : (v : ℕ) (c : Place × Place) → c ∈ pair v → (d : ℕ) → c.0 ≡ edge d → Here K v M d
  pair_left v = left_here K M N v (pair v) (pair_fair v)

  pair_right : (v : ℕ) (c : Place × Place) → c ∈ pair v → (d : ℕ) → c.1 ≡ edge d → Here K v N d
  pair_right v = right_here K M N v (pair v) (pair_fair v)

  pair_kind : (v : ℕ) (c : Place × Place) → c ∈ pair v → Kind M N c
  pair_kind v = kind K M N v (pair v) (pair_fair v)

  -- ---- the exchange on this side
  -- the edges that come, each with what gives way to it on this side, node by node
  pub couples_to : List Couple
  couples_to = gather (λ v. couples_of M (pair v)) (up_to K.n)

  -- the edges that are lost on this side without anything in return, node by node
  pub losses_to : List ℕ
  losses_to = gather (λ v. losses_of (pair v)) (up_to K.n)

  sum_couples : (g : Couple → ℕ) → sum g couples_to ≡ sum (λ v. sum (on_couple M g) (pair v)) (up_to K.n)
  unfolding couples_to
  sum_couples g = sum_gather g (λ v. couples_of M (pair v)) (up_to K.n)
      ∙ sum_cong (λ v. sum g (couples_of M (pair v))) (λ v. sum (on_couple M g) (pair v)) (up_to K.n) (λ v m. couples_sum M g (pair v))

  sum_losses : (h : ℕ → ℕ) → sum h losses_to ≡ sum (λ v. sum (on_loss h) (pair v)) (up_to K.n)
  unfolding losses_to
  sum_losses h = sum_gather h (λ v. losses_of (pair v)) (up_to K.n)
      ∙ sum_cong (λ v. sum h (losses_of (pair v))) (λ v. sum (on_loss h) (pair v)) (up_to K.n) (λ v m. losses_sum h (pair v))

  meet : (c : Couple) → c ∈ couples_to → (d : ℕ) → c.0 ≡ edge d → K.end d ≡ K.end c.1
  unfolding couples_to
  meet c k d e =
      let t = gather_∈ (λ v. couples_of M (pair v)) (up_to K.n) k in
      let j = couples_∈ M (pair t.0) c t.2 in
      (pair_left t.0 (c.0, edge c.1) j d e).1 ∙ sym (pair_right t.0 (c.0, edge c.1) j c.1 refl).1

  -- ---- what goes and what comes
  gone_at : (e : ℕ) (c : Place × Place) → Kind M N c
      → on_couple M (λ c. bit (same c.0 (edge e))) c + on_loss (λ l. bit (eqb l e)) c ≡ pk (not (N e)) (bit (same c.0 (edge e)))
  gone_at e c (shares {d = d} {f = f} p mf nd) = omega (arith, test_at N d e, ap (λ x. pk (not x) (bit (eqb d e))) nd, ap (λ x. pk (not x) (bit (eqb d e))) mf)
  gone_at e c (swaps {d = d} {f = f} mf nd) = omega (arith, test_at N d e, ap (λ x. pk (not x) (bit (eqb d e))) nd, ap (λ x. pk (not x) (bit (eqb d e))) mf)
  gone_at e c (loses {d = d} nd) = omega (arith, test_at N d e, ap (λ x. pk (not x) (bit (eqb d e))) nd)
  gone_at e c (gets {f = f} mf) = omega (arith, pk_0 (not (M f)), pk_0 (not (N e)))
  gone_at e c void = omega (arith, pk_0 (not (N e)))

  come_at : (e : ℕ) (c : Place × Place) → on_couple M (λ c. bit (eqb c.1 e)) c ≡ pk (not (M e)) (bit (same c.1 (edge e)))
  come_at e (p, edge f) = test_at M f e
  come_at e (p, empty) = sym (pk_0 (not (M e)))

  -- gains and losses at a node are those of the pairing there
  gain_at : (c : Place × Place) → Kind M N c → on_couple M (λ c. bit (same c.0 empty)) c ≡ bit (empty_faces_pair c)
  gain_at c (shares {f = f} p mf nd) = pk_0 (not (M f))
  gain_at c (swaps {f = f} mf nd) = pk_0 (not (M f))
  gain_at c (loses nd) = refl
  gain_at c (gets {f = f} mf) = ap (λ x. pk (not x) 1) mf
  gain_at c void = refl

  loss_at : (c : Place × Place) → on_loss (λ l. 1) c ≡ bit (pair_faces_empty c)
  loss_at (edge d, edge f) = refl
  loss_at (edge d, empty) = refl
  loss_at (empty, q) = refl

  abbrev gained_at : ℕ → ℕ
  gained_at v = sum (λ c. bit (empty_faces_pair c)) (pair v)

  abbrev lost_at : ℕ → ℕ
  lost_at v = sum (λ c. bit (pair_faces_empty c)) (pair v)

  gains_at : (v : ℕ) → (gains K couples_to v ≡ gained_at v) ⊎ (gains K couples_to v ≡ 0)
  unfolding couples_to
  gains_at v = ⊎_map (λ e. all ∙ e) (λ e. all ∙ e) (sum_only gained_at K.n v)
    where
      one : (u : ℕ) → sum (λ c. pk (eqb (K.end c.1) v) (bit (same c.0 empty))) (couples_of M (pair u)) ≡ pk (eqb u v) (gained_at u)
      one u =
          sum_cong (λ c. pk (eqb (K.end c.1) v) (bit (same c.0 empty))) (λ c. pk (eqb u v) (bit (same c.0 empty))) (couples_of M (pair u))
          (λ c k. ap (λ z. pk (eqb z v) (bit (same c.0 empty))) (pair_right u (c.0, edge c.1) (couples_∈ M (pair u) c k) c.1 refl).1)
          ∙ sum_pk (eqb u v) (λ c. bit (same c.0 empty)) (couples_of M (pair u))
          ∙ ap (λ z. pk (eqb u v) z) (couples_sum M (λ c. bit (same c.0 empty)) (pair u)
          ∙ sum_cong (on_couple M (λ c. bit (same c.0 empty))) (λ c. bit (empty_faces_pair c)) (pair u) (λ c k. gain_at c (pair_kind u c k)))

      all : gains K couples_to v ≡ sum (λ u. pk (eqb u v) (gained_at u)) (up_to K.n)
      all =
          sum_gather (λ c. pk (eqb (K.end c.1) v) (bit (same c.0 empty))) (λ u. couples_of M (pair u)) (up_to K.n)
          ∙ sum_cong (λ u. sum (λ c. pk (eqb (K.end c.1) v) (bit (same c.0 empty))) (couples_of M (pair u))) (λ u. pk (eqb u v) (gained_at u))
          (up_to K.n) (λ u m. one u)

  losses_at : (v : ℕ) → (losses K losses_to v ≡ lost_at v) ⊎ (losses K losses_to v ≡ 0)
  unfolding losses_to
  losses_at v = ⊎_map (λ e. all ∙ e) (λ e. all ∙ e) (sum_only lost_at K.n v)
    where
      one : (u : ℕ) → sum (λ l. pk (eqb (K.end l) v) 1) (losses_of (pair u)) ≡ pk (eqb u v) (lost_at u)
      one u =
          sum_cong (λ l. pk (eqb (K.end l) v) 1) (λ l. pk (eqb u v) 1) (losses_of (pair u))
          (λ l k. ap (λ z. pk (eqb z v) 1) (pair_left u (edge l, empty) (losses_∈ (pair u) l k) l refl).1)
          ∙ sum_pk (eqb u v) (λ l. 1) (losses_of (pair u))
          ∙ ap (λ z. pk (eqb u v) z) (losses_sum (λ l. 1) (pair u) ∙ sum_cong (on_loss (λ l. 1)) (λ c. bit (pair_faces_empty c)) (pair u) (λ c k. loss_at c))

      all : losses K losses_to v ≡ sum (λ u. pk (eqb u v) (lost_at u)) (up_to K.n)
      all =
          sum_gather (λ l. pk (eqb (K.end l) v) 1) (λ u. losses_of (pair u)) (up_to K.n)
          ∙ sum_cong (λ u. sum (λ l. pk (eqb (K.end l) v) 1) (losses_of (pair u))) (λ u. pk (eqb u v) (lost_at u)) (up_to K.n) (λ u m. one u)

  room : (v : ℕ) → deg K M v + gains K couples_to v ≤ K.quota v
  room v = ⊎_elim
      (λ e. omega (
        arith,
        sum_mono (λ c. bit (empty_faces_pair c)) (λ c. bit (same c.0 empty)) (pair v)
            (λ c k. less c),
        (pair_fair v).on_left empty,
        times_empty (K.quota v) (here K M v),
        here_deg K M v,
        hM v,
      ))
      (λ e. omega (arith, hM v))
      (gains_at v)
    where
      less : (c : Place × Place) → bit (empty_faces_pair c) ≤ bit (same c.0 empty)
      less (edge d, q) = zero-le
      less (empty, q) = bit_one (not (same q empty))

  apart : (v : ℕ) → (losses K losses_to v ≡ 0) ⊎ (gains K couples_to v ≡ 0)
  apart v = go (gains_at v) (losses_at v) (pair_fair v).not_both
    where
      go : (gains K couples_to v ≡ gained_at v) ⊎ (gains K couples_to v ≡ 0) → (losses K losses_to v ≡ lost_at v) ⊎ (losses K losses_to v ≡ 0) → NotBoth (pair v)
          → (losses K losses_to v ≡ 0) ⊎ (gains K couples_to v ≡ 0)
      go (inr g) l b = inr g
      go (inl g) (inr l) b = inl l
      go (inl g) (inl l) (inl b) = inl (l ∙ b)
      go (inl g) (inl l) (inr b) = inr (g ∙ b)

  -- ---- of the laws `inside` and `placed` alone are used
  module _ (ranked : Ranked K) where
    -- over all nodes, an edge is at one
    spread : (x b : Bool) (e : ℕ) → sum (λ v. pk b (pk (x && eqb (K.end e) v) (occ e (up_to K.m)))) (up_to K.n) ≡ pk (x && b) (occ e (up_to K.m))
    spread x b e = sum_pk b (λ v. pk (x && eqb (K.end e) v) u) (up_to K.n) ∙ ap (λ z. pk b z) at_one ∙ sym (pk_and x b u)
      where
        u : ℕ
        u = occ e (up_to K.m)

        at_one : sum (λ v. pk (x && eqb (K.end e) v) (occ e (up_to K.m))) (up_to K.n) ≡ pk x (occ e (up_to K.m))
        at_one = sum_cong (λ v. pk (x && eqb (K.end e) v) u) (λ v. pk (eqb (K.end e) v) (pk x u)) (up_to K.n)
            (λ v m. pk_and x (eqb (K.end e) v) u) ∙ by_cases (dec_lt 0 u)
            (λ h. sum_one (λ v. pk x u) K.n (K.end e) (ranked.inside e (occ_< K.m e h)))
            (λ n. let z : pk x u ≡ 0 = omega (arith, pk_le x u) in
            sum_zeros (λ v. pk (eqb (K.end e) v) (pk x u)) (up_to K.n) (λ v m. pk_zero (eqb (K.end e) v) z) ∙ sym z)

    gone : (e : ℕ) → sum (λ c. bit (same c.0 (edge e))) couples_to + occ e losses_to ≡ occ e (goers K.m M N)
    gone e =
        let g : Couple → ℕ = λ c. bit (same c.0 (edge e)) in
        let h : ℕ → ℕ = λ l. bit (eqb l e) in
        let per = sum_cong (λ v. sum (on_couple M g) (pair v) + sum (on_loss h) (pair v))
        (λ v. pk (not (N e)) (pk (M e && eqb (K.end e) v) (occ e (up_to K.m)))) (up_to K.n)
        (λ v m. sym (sum_add (on_couple M g) (on_loss h) (pair v))
        ∙ sum_cong (λ c. on_couple M g c + on_loss h c) (λ c. pk (not (N e)) (bit (same c.0 (edge e)))) (pair v) (λ c k. gone_at e c (pair_kind v c k))
        ∙ sum_pk (not (N e)) (λ c. bit (same c.0 (edge e))) (pair v) ∙ ap (λ z. pk (not (N e)) z) (fair_left K M N v (pair v) (pair_fair v) e)) in
        omega (
          arith,
          sum_couples g,
          sum_losses h,
          sum_add (λ v. sum (on_couple M g) (pair v)) (λ v. sum (on_loss h) (pair v)) (up_to K.n),
          per,
          spread (M e) (not (N e)) e,
          goers_occ K.m M N e,
        )

    come : (e : ℕ) → sum (λ c. bit (eqb c.1 e)) couples_to ≡ occ e (goers K.m N M)
    come e =
        let g : Couple → ℕ = λ c. bit (eqb c.1 e) in
        let per = sum_cong (λ v. sum (on_couple M g) (pair v)) (λ v. pk (not (M e)) (pk (N e && eqb (K.end e) v) (occ e (up_to K.m)))) (up_to K.n)
        (λ v m. sum_cong (on_couple M g) (λ c. pk (not (M e)) (bit (same c.1 (edge e)))) (pair v) (λ c k. come_at e c)
        ∙ sum_pk (not (M e)) (λ c. bit (same c.1 (edge e))) (pair v) ∙ ap (λ z. pk (not (M e)) z) (fair_right K M N v (pair v) (pair_fair v) e)) in
        omega (arith, sum_couples g, per, spread (N e) (not (M e)) e, goers_occ K.m N M e)

    -- these couples and losses are a valid exchange on this side, from M to N
    pub moves_of : Moves K M (goers K.m M N) (goers K.m N M) couples_to losses_to
    moves_of = record { gone = gone; come = come; meet = meet; room = room; apart = apart }

    -- ---- the cost is the vote
    cost_at : (c : Place × Place) → ((d : ℕ) → c.0 ≡ edge d → K.rank d < empty_rank) → ((f : ℕ) → c.1 ≡ edge f → K.rank f < empty_rank) → Kind M N c
        → mark K.rank c + on_couple M (against K.rank) c ≡ 1 + (on_couple M (for K.rank) c + on_loss (λ l. 1) c)
    cost_at c hd hf (shares {d = d} {f = f} p mf nd) = omega (
      arith,
      mark_same K.rank (edge d),
      ap (λ z. mark K.rank (edge d, edge z)) p,
      ap (λ x. pk (not x) (against K.rank (edge d, f))) mf,
      ap (λ x. pk (not x) (for K.rank (edge d, f))) mf,
    )
    cost_at c hd hf (swaps {d = d} {f = f} mf nd) = omega (
      arith,
      mark_edges K.rank d f,
      ap (λ x. pk (not x) (against K.rank (edge d, f))) mf,
      ap (λ x. pk (not x) (for K.rank (edge d, f))) mf,
    )
    cost_at c hd hf (loses {d = d} nd) = omega (arith, mark_lost K.rank d (hd d refl))
    cost_at c hd hf (gets {f = f} mf) = omega (arith, mark_gained K.rank f (hf f refl), ap (λ x. pk (not x) 1) mf, pk_0 (not (M f)))
    cost_at c hd hf void = omega (arith, mark_same K.rank empty)

    node_cost : (v : ℕ) → score K M N v + sum (on_couple M (against K.rank)) (pair v)
        ≡ K.quota v + (sum (on_couple M (for K.rank)) (pair v) + sum (on_loss (λ l. 1)) (pair v))
    node_cost v = omega (
      arith,
      pair_score v,
      sum_add (mark K.rank) (on_couple M (against K.rank)) (pair v),
      sum_cong (λ c. mark K.rank c + on_couple M (against K.rank) c) (λ c. 1 + (on_couple M (for K.rank) c + on_loss (λ l. 1) c)) (pair v)
          (λ c k. cost_at c
          (λ d e. ranked.placed d (pair_left v c k d e).2)
          (λ f e. ranked.placed f (pair_right v c k f e).2)
          (pair_kind v c k)),
      sum_add (λ c. 1) (λ c. on_couple M (for K.rank) c + on_loss (λ l. 1) c) (pair v),
      sum_add (on_couple M (for K.rank)) (on_loss (λ l. 1)) (pair v),
      pairing_length (places_at K M v) (places_at K N v) (pair v) (pair_in_law v),
      node_places K M v (hM v),
    )

    -- the scores of all nodes of the side are its quotas and what the exchange costs there: votes for M and losses, less the votes against M
    pub cost_of : sum (score K M N) (up_to K.n) + sum (against K.rank) couples_to
        ≡ sum K.quota (up_to K.n) + (sum (for K.rank) couples_to + length losses_to)
    cost_of =
        let A : ℕ → ℕ = λ v. sum (on_couple M (against K.rank)) (pair v) in
        let B : ℕ → ℕ = λ v. sum (on_couple M (for K.rank)) (pair v) in
        let L : ℕ → ℕ = λ v. sum (on_loss (λ l. 1)) (pair v) in
        omega (
          arith,
          sum_couples (against K.rank),
          sum_couples (for K.rank),
          sum_losses (λ l. 1),
          sum_length losses_to,
          sum_cong (λ v. score K M N v + A v) (λ v. K.quota v + (B v + L v)) (up_to K.n) (λ v m. node_cost v),
          sum_add (score K M N) A (up_to K.n),
          sum_add K.quota (λ v. B v + L v) (up_to K.n),
          sum_add B L (up_to K.n),
        )
