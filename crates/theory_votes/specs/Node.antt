-- Lemma X, one side of it: at each node the couples of an exchange, with what is shared and what is lost there, make a valid
-- pairing of M against N. So N keeps the quotas, and the side's votes are at most what the exchange costs there. It rests on scores
-- (Score.antt) and on what an exchange is (Exchange.antt).
use Rattle.std.specs.Prelude.{ℕ, ◌+◌, ◌-◌, ◌*◌, ◌≤◌, ◌<◌, ◌≡◌, refl, ◌⊎◌, Bool, true, false, not, ◌&&◌, replicate, eqb}
use native.Mathlib.Omega.{arith}
use Rattle.std.proofs.Common.{sym, ap, ◌∙◌, inl, inr, eqb→eq}
use Rattle.std.proofs.Math.Bool.{and_comm}
use mathlib.Core.List.{List, ◌++◌, map}
use Rattle.std.proofs.Math.ListN.{length}
use Rattle.lists.specs.Test.{bit, pk, pk_0, pk_zero, pk_le, pk_add, pk_and, pk_when}
use Rattle.lists.specs.Sum.{◌∈◌, sum, sum_zeros, sum_pk_0, sum_add, sum_append, sum_map, sum_cong, sum_mono, sum_mem, sum_length, sum_replicate}
use Rattle.lists.specs.Sum.{sum_pk, up_to, occ}
use Rattle.lists.specs.Keep.{keep, sum_keep}
use Rattle.lists.specs.Occur.{occ_<, sum_at, sum_by}
use Rattle.model.specs.Instance.{Side, deg}
use Rattle.model.specs.Vote.{Place, edge, empty, same, here, Pairing, shared, faces, pair_faces_empty, empty_faces_pair, places_at}
use Rattle.theory_instance.specs.Lawful.{Ranked}
use Rattle.theory_votes.specs.Score.{mark, mark_same, mark_lost, score}
use Rattle.theory_votes.specs.Places.{same→, same_refl, times, left, right, census, here_occ, here_deg, deg_occ, times_edge, times_empty}
use Rattle.theory_votes.specs.Fair.{NotBoth, faces_self, faces_apart, Fair, score_≤}
use Rattle.theory_votes.specs.Exchange.{Couple, for, against, mark_couple, Swap, goer_is, comer_is, losses, gains, Moves, couple_comes}
use Rattle.theory_votes.specs.Exchange.{couple_goes, loss_goes}

abbrev at : Side → ℕ → ℕ → Bool
at K v e = eqb (K.end e) v

abbrev shared_at : Side → (ℕ → Bool) → (ℕ → Bool) → ℕ → ℕ → Bool
shared_at K M N v e = (M e && N e) && at K v e

-- ---- the couples at a node: the shared edges, cs, the lost ones
module _ (K : Side) (M N : ℕ → Bool) (cs : List Couple) (ls : List ℕ) (v : ℕ) where
  core : Pairing
  core = map (λ e. (edge e, edge e)) (keep (shared_at K M N v) (up_to K.m))
      ++ (map (λ c. (c.0, edge c.1)) (keep (λ c. at K v c.1) cs)
      ++ map (λ l. (edge l, empty)) (keep (at K v) ls))

  core_sum : (g : Place × Place → ℕ) → sum g core ≡ sum (λ e. pk (shared_at K M N v e) (g (edge e, edge e))) (up_to K.m)
      + (sum (λ c. pk (at K v c.1) (g (c.0, edge c.1))) cs + sum (λ l. pk (at K v l) (g (edge l, empty))) ls)
  unfolding core
  core_sum g =
      let xs = keep (shared_at K M N v) (up_to K.m) in
      let ys = keep (λ c. at K v c.1) cs in
      let zs = keep (at K v) ls in
      omega (
        arith,
        sum_append g (map (λ e. (edge e, edge e)) xs) (map (λ c. (c.0, edge c.1)) ys ++ map (λ l. (edge l, empty)) zs),
        sum_append g (map (λ c. (c.0, edge c.1)) ys) (map (λ l. (edge l, empty)) zs),
        sum_map g (λ e. (edge e, edge e)) xs,
        sum_map g (λ c. (c.0, edge c.1)) ys,
        sum_map g (λ l. (edge l, empty)) zs,
        sum_keep (λ e. g (edge e, edge e)) (shared_at K M N v) (up_to K.m),
        sum_keep (λ c. g (c.0, edge c.1)) (λ c. at K v c.1) cs,
        sum_keep (λ l. g (edge l, empty)) (at K v) ls,
      )

-- three numbers under one test
pk_three : (a : Bool) (s x y z w : ℕ) → x + y ≡ z → s + z ≡ w → pk a s + (pk a x + pk a y) ≡ pk a w
pk_three true s x y z w p q = omega arith
pk_three false s x y z w p q = refl

module _ (K : Side) (M N : ℕ → Bool) (R F : List ℕ) (sw : Swap K.m M N R F) (cs : List Couple) (ls : List ℕ) (mv : Moves K M R F cs ls) where
  module _ (v : ℕ) where
    -- ---- its two columns, edge by edge
    left_edge : (e : ℕ) → left (edge e) (core K M N cs ls v) ≡ pk (M e && eqb (K.end e) v) (occ e (up_to K.m))
    left_edge e =
        let a = eqb (K.end e) v in
        let u = occ e (up_to K.m) in
        let p2 = sum_cong (λ c. pk (at K v c.1) (bit (same c.0 (edge e)))) (λ c. pk a (bit (same c.0 (edge e)))) cs
        (λ c k. pk_when (at K v c.1) a (same c.0 (edge e)) (λ t. ap (λ z. eqb z v) (sym (mv.meet c k e (same→ c.0 (edge e) t)))))
        ∙ sum_pk a (λ c. bit (same c.0 (edge e))) cs in
        omega (
          arith,
          core_sum K M N cs ls v (λ c. bit (same c.0 (edge e))),
          sum_at (shared_at K M N v) e (up_to K.m) ∙ pk_and (M e && N e) a u,
          p2,
          sum_at (λ d. eqb (K.end d) v) e ls,
          pk_three a (pk (M e && N e) u) (sum (λ c. bit (same c.0 (edge e))) cs) (occ e ls) (occ e R) (pk (M e) u) (mv.gone e) (sw.goes e),
          pk_and (M e) a u,
        )

    right_edge : (e : ℕ) → right (edge e) (core K M N cs ls v) ≡ pk (N e && eqb (K.end e) v) (occ e (up_to K.m))
    right_edge e =
        let a = eqb (K.end e) v in
        let u = occ e (up_to K.m) in
        let p2 = sum_cong (λ c. pk (at K v c.1) (bit (eqb c.1 e))) (λ c. pk a (bit (eqb c.1 e))) cs
        (λ c k. pk_when (at K v c.1) a (eqb c.1 e) (λ t. ap (λ z. eqb (K.end z) v) (eqb→eq c.1 e t)))
        ∙ sum_pk a (λ c. bit (eqb c.1 e)) cs in
        omega (
          arith,
          core_sum K M N cs ls v (λ c. bit (same c.1 (edge e))),
          sum_at (shared_at K M N v) e (up_to K.m) ∙ pk_and (M e && N e) a u,
          p2,
          sum_pk_0 (at K v) ls,
          pk_three a (pk (M e && N e) u) (sum (λ c. bit (eqb c.1 e)) cs) 0 (occ e F) (pk (N e) u) (omega (arith, mv.come e)) (sw.comes e),
          pk_0 a,
          pk_and (N e) a u,
        )

    left_empty : left empty (core K M N cs ls v) ≡ gains K cs v
    left_empty = omega (arith, core_sum K M N cs ls v (λ c. bit (same c.0 empty)), sum_pk_0 (shared_at K M N v) (up_to K.m), sum_pk_0 (at K v) ls)

    right_empty : right empty (core K M N cs ls v) ≡ losses K ls v
    right_empty = omega (
      arith,
      core_sum K M N cs ls v (λ c. bit (same c.1 empty)),
      sum_pk_0 (shared_at K M N v) (up_to K.m),
      sum_pk_0
          (λ c. at K v c.1) cs,
    )

    -- ---- and in all
    column_all : (S : ℕ → Bool) (f : Place × Place → Place)
        → ((e : ℕ) → sum (λ c. bit (same (f c) (edge e))) (core K M N cs ls v) ≡ pk (S e && eqb (K.end e) v) (occ e (up_to K.m)))
        → deg K S v + sum (λ c. bit (same (f c) empty)) (core K M N cs ls v) ≡ length (core K M N cs ls v)
    column_all S f h = omega (
      arith,
      census K.m f (core K M N cs ls v) bound,
      sum_cong (λ e. sum (λ c. bit (same (f c) (edge e))) (core K M N cs ls v)) (λ e. pk (S e && eqb (K.end e) v) (occ e (up_to K.m)))
          (up_to K.m) (λ e k. h e),
      deg_occ K S v,
    )
      where
        bound : (c : Place × Place) → c ∈ core K M N cs ls v → (d : ℕ) → f c ≡ edge d → d < K.m
        bound c k d e = occ_< K.m d (omega (
          arith,
          sum_mem (λ b. bit (same (f b) (edge d))) k,
          ap (λ p. bit (same p (edge d))) e,
          same_refl (edge d),
          h d,
          pk_le (S d && eqb (K.end d) v) (occ d (up_to K.m)),
        ))

    left_all : deg K M v + gains K cs v ≡ length (core K M N cs ls v)
    left_all = omega (arith, column_all M (λ c. c.0) left_edge, left_empty)

    right_all : deg K N v + losses K ls v ≡ length (core K M N cs ls v)
    right_all = omega (arith, column_all N (λ c. c.1) right_edge, right_empty)

    -- N has no more edges at the node than its quota
    pub exchange_within : deg K N v ≤ K.quota v
    exchange_within = omega (arith, left_all, right_all, mv.room v)

    -- ---- with empty places against empty places it is a valid pairing
    full : Pairing
    full = core K M N cs ls v ++ replicate (K.quota v - length (core K M N cs ls v)) (empty, empty)

    full_sum : (g : Place × Place → ℕ) → sum g full ≡ sum g (core K M N cs ls v) + (K.quota v - length (core K M N cs ls v)) * g (empty, empty)
    unfolding full
    full_sum g = omega (
      arith,
      sum_append g (core K M N cs ls v) (replicate (K.quota v - length (core K M N cs ls v)) (empty, empty)),
      sum_replicate g (K.quota v - length (core K M N cs ls v)) (empty, empty),
    )

    on_left : (a : Place) → times a (places_at K M v) ≡ left a full
    on_left (edge e) = omega (arith, full_sum (λ c. bit (same c.0 (edge e))), left_edge e, times_edge (K.quota v) e (here K M v), here_occ K M v e)
    on_left empty = omega (
      arith,
      full_sum (λ c. bit (same c.0 empty)),
      left_empty,
      left_all,
      mv.room v,
      times_empty (K.quota v)
          (here K M v),
      here_deg K M v,
    )

    on_right : (a : Place) → times a (places_at K N v) ≡ right a full
    on_right (edge e) = omega (arith, full_sum (λ c. bit (same c.1 (edge e))), right_edge e, times_edge (K.quota v) e (here K N v), here_occ K N v e)
    on_right empty = omega (
      arith,
      full_sum (λ c. bit (same c.1 empty)),
      right_empty,
      left_all,
      right_all,
      mv.room v,
      times_empty (K.quota v) (here K N v),
      here_deg K N v,
    )

    -- what goes or comes is not shared
    goer_apart : (d : ℕ) → 0 < occ d R → (M d && N d) ≡ false
    goer_apart d h = let t = goer_is K.m M N R F sw d h in ap (λ b. b && N d) t.0 ∙ t.1

    comer_apart : (d : ℕ) → 0 < occ d F → (M d && N d) ≡ false
    comer_apart d h = ap (λ b. b && N d) (comer_is K.m M N R F sw d h).1

    couple_apart : (c : Couple) → c ∈ cs → (p : Place) → c.0 ≡ p → shared M N p ≡ false
    couple_apart c k (edge d) e = goer_apart d (couple_goes K M R F cs ls mv c k d e)
    couple_apart c k empty e = refl

    own : sum (λ c. bit (not (faces M N c))) full ≡ 0
    own =
        let g : Place × Place → ℕ = λ c. bit (not (faces M N c)) in
        omega (
          arith,
          full_sum g,
          core_sum K M N cs ls v g,
          sum_zeros (λ e. pk (shared_at K M N v e) (g (edge e, edge e))) (up_to K.m) (λ e k. pk_zero (shared_at K M N v e) (faces_self M N e)),
          sum_zeros (λ c. pk (at K v c.1) (g (c.0, edge c.1))) cs
              (λ c k. pk_zero (at K v c.1)
              (faces_apart M N c.0 (edge c.1) (couple_apart c k c.0 refl) (comer_apart c.1 (couple_comes K M R F cs ls mv c k)))),
          sum_zeros (λ l. pk (at K v l) (g (edge l, empty))) ls
              (λ l k. pk_zero (at K v l) (faces_apart M N (edge l) empty (goer_apart l (loss_goes K M R F cs ls mv l k)) refl)),
        )

    lost_count : sum (λ c. bit (pair_faces_empty c)) full ≡ losses K ls v
    lost_count = omega (
      arith,
      full_sum (λ c. bit (pair_faces_empty c)),
      core_sum K M N cs ls v (λ c. bit (pair_faces_empty c)),
      sum_pk_0 (shared_at K M N v) (up_to K.m),
      sum_zeros (λ c. pk (at K v c.1) (bit (pair_faces_empty (c.0, edge c.1)))) cs
          (λ c k. pk_zero (at K v c.1) (ap bit (and_comm (not (same c.0 empty)) false))),
    )

    gained_count : sum (λ c. bit (empty_faces_pair c)) full ≡ gains K cs v
    gained_count = omega (
      arith,
      full_sum (λ c. bit (empty_faces_pair c)),
      core_sum K M N cs ls v (λ c. bit (empty_faces_pair c)),
      sum_pk_0 (shared_at K M N v) (up_to K.m),
      sum_cong (λ c. pk (at K v c.1) (bit (empty_faces_pair (c.0, edge c.1)))) (λ c. pk (at K v c.1) (bit (same c.0 empty))) cs
          (λ c k. ap (λ z. pk (at K v c.1) (bit z)) (and_comm (same c.0 empty) true)),
      sum_pk_0 (at K v) ls,
    )

    fair : Fair M N (places_at K M v) (places_at K N v) full
    fair = record { on_left = on_left; on_right = on_right; own = own; not_both = go (mv.apart v) }
      where
        go : (losses K ls v ≡ 0) ⊎ (gains K cs v ≡ 0) → NotBoth full
        go (inl e) = inl (lost_count ∙ e)
        go (inr e) = inr (gained_count ∙ e)

  -- ---- costs: of the laws `inside` and `placed` alone are used, that no edge lies outside the nodes and none ranks with an empty place
  module _ (ranked : Ranked K) where
    come_in : (c : Couple) → c ∈ cs → c.1 < K.m
    come_in c k = (comer_is K.m M N R F sw c.1 (couple_comes K M R F cs ls mv c k)).2

    loss_in : (l : ℕ) → l ∈ ls → l < K.m
    loss_in l k = (goer_is K.m M N R F sw l (loss_goes K M R F cs ls mv l k)).2

    -- the node's vote is at most that of the couples there
    node_≤ : (v : ℕ) → score K M N v + sum (λ c. pk (at K v c.1) (against K.rank c)) cs
        ≤ K.quota v + (sum (λ c. pk (at K v c.1) (for K.rank c)) cs + losses K ls v)
    node_≤ v =
        let s : ℕ → Bool = shared_at K M N v in
        let mk : Place × Place → ℕ = mark K.rank in
        let ag : Couple → ℕ = against K.rank in
        let fo : Couple → ℕ = for K.rank in
        let ones = sum_cong (λ e. pk (s e) (mk (edge e, edge e))) (λ e. pk (s e) 1) (up_to K.m)
        (λ e k. ap (λ z. pk (s e) z) (mark_same K.rank (edge e))) in
        let twos = sum_cong (λ l. pk (at K v l) (mk (edge l, empty))) (λ l. pk (at K v l) 1 + pk (at K v l) 1) ls
        (λ l k. ap (λ z. pk (at K v l) z) (mark_lost K.rank l (ranked.placed l (loss_in l k))) ∙ pk_add (at K v l) 1 1) in
        let even = sum_cong (λ c. pk (at K v c.1) (mk (c.0, edge c.1)) + pk (at K v c.1) (ag c))
        (λ c. pk (at K v c.1) 1 + pk (at K v c.1) (fo c)) cs
        (λ c k. sym (pk_add (at K v c.1) (mk (c.0, edge c.1)) (ag c))
        ∙ ap (λ z. pk (at K v c.1) z) (mark_couple K.rank c (ranked.placed c.1 (come_in c k))) ∙ pk_add (at K v c.1) 1 (fo c)) in
        omega (
          arith,
          score_≤ K M N v (full v) (fair v),
          full_sum v (mark K.rank),
          ap (λ z. (K.quota v - length (core K M N cs ls v)) * z) (mark_same K.rank empty),
          core_sum K M N cs ls v (mark K.rank),
          core_sum K M N cs ls v (λ c. 1),
          sum_length (core K M N cs ls v),
          left_all v,
          mv.room v,
          ones,
          twos,
          even,
          sum_add (λ l. pk (at K v l) 1) (λ l. pk (at K v l) 1) ls,
          sum_add (λ c. pk (at K v c.1) (mk (c.0, edge c.1))) (λ c. pk (at K v c.1) (ag c)) cs,
          sum_add (λ c. pk (at K v c.1) 1) (λ c. pk (at K v c.1) (fo c)) cs,
        )

    -- all nodes of the side: each couple and each loss counts once
    pub exchange_cost : sum (score K M N) (up_to K.n) + sum (against K.rank) cs ≤ sum K.quota (up_to K.n) + (sum (for K.rank) cs + length ls)
    exchange_cost =
        let A : ℕ → ℕ = λ v. sum (λ c. pk (at K v c.1) (against K.rank c)) cs in
        let B : ℕ → ℕ = λ v. sum (λ c. pk (at K v c.1) (for K.rank c)) cs in
        let in_c : (c : Couple) → c ∈ cs → K.end c.1 < K.n = λ c k. ranked.inside c.1 (come_in c k) in
        omega (
          arith,
          sum_mono (λ v. score K M N v + A v) (λ v. K.quota v + (B v + losses K ls v)) (up_to K.n) (λ v k. node_≤ v),
          sum_add (score K M N) A (up_to K.n),
          sum_add K.quota (λ v. B v + losses K ls v) (up_to K.n),
          sum_add B (losses K ls) (up_to K.n),
          sum_by K.n (λ c. K.end c.1) (against K.rank) cs in_c,
          sum_by K.n (λ c. K.end c.1) (for K.rank) cs in_c,
          sum_by K.n K.end (λ l. 1) ls (λ l k. ranked.inside l (loss_in l k)),
          sum_length ls,
        )
