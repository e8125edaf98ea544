-- The theorems that rest on specs/Settled.antt. They stand here so that a wrong definition there is refused by a proof.
use Prim.Native.Nat.{ℕ, zero, suc, ◌+◌, ◌-◌, ◌≤◌, ◌<◌}
use Rattle.std.proofs.Common.{arith, ◌∙◌, T_not}
use Rattle.std.specs.Prelude.{◌≡◌, refl, not, replicate, T}
use Rattle.std.proofs.Math.Path.{sym, ap, subst}
use Rattle.std.proofs.Math.Logic.{⊎_elim}
use mathlib.Core.List.{List, [], ◌∷◌, ◌++◌, map}
use Rattle.std.proofs.Math.ListN.{length, get_or, length-append, get_or-append}
use Rattle.std.proofs.lemmas.List.{length-replicate, get_or-replicate}
use Rattle.std.proofs.Math.Seq.{get_or-append-add}
use Rattle.lists.specs.Test.{by-test, or_case}
use Rattle.lists.specs.Sum.{◌∈◌, sum, sum_cong, sum_length, up_to, range, range_length}
use Rattle.lists.specs.Keep.{gather, sum_gather, any_append}
use Rattle.model.specs.Limits.{empty_rank}
use Rattle.model.specs.Roster.{Entry, Ranking, Roster, list_s, list_t, entries, same, has, fits, total_s}
use Rattle.model.specs.Edges.{position, edges_of, edge_at, instance_of}
use Rattle.model.specs.Instance.{Instance}
use Rattle.model.specs.Plans.{Plan, on, plans_of, vote_of}
use Rattle.model.specs.Ranges.{Range, place_s, place_t, ranked, roster_ranks, ranking_ranks, settled_at}
use Rattle.theory_instance.specs.Lawful.{Matching}
use Rattle.theory_instance.specs.Within.{within_matching}
use Rattle.theory_files.specs.Chosen.{plan_within}
use Rattle.theory_files.specs.RosterInstance.{lawful, lists_count, rankings_count}
use Rattle.theory_files.specs.Position.{position_pos, position_in_law, position_out}
use Rattle.theory_ranges.proofs.Falls.{vote_alike}
use Rattle.theory_ranges.specs.Worst.{worst_choice_law}
use Rattle.theory_ranges.specs.LeastVote.{choice_of}
use Rattle.theory_ranges.specs.Places.{place_below}
use Rattle.theory_ranges.specs.Entries.{position_left, position_right}
use Rattle.theory_ranges.specs.RosterSums.{entry}
use Rattle.theory_ranges.specs.RosterPlaces.{place_s_law, total_s_law, rank_s_is, rank_t_is, has_s, has_t}
use Rattle.theory_ranges.specs.Settled.{settled_choice, settled_fit}

sum_shift : (F : ℕ → ℕ) (i : ℕ) → sum F (up_to (suc i)) ≡ F 0 + sum (λ k. F (suc k)) (up_to i)
sum_shift F zero = refl
sum_shift F (suc i) = omega (arith, sum_shift F i)

-- the p-th of the i-th list stands behind the lists before it
gather_at : {A : Type 0} (f : A → List ℕ) (a : A) (ls : List A) (i p : ℕ) → i < length ls → p < length (f (get_or ls i a))
    → get_or (gather f ls) (sum (λ k. length (f (get_or ls k a))) (up_to i) + p) 0 ≡ get_or (f (get_or ls i a)) p 0
gather_at f a [] i p h k = absurd (omega arith)
gather_at f a (x ∷ ls) zero p h k = ap (λ j. get_or (f x ++ gather f ls) j 0) (zero_plus p) ∙ get_or-append (f x) (gather f ls) 0 p k
  where
    zero_plus : (p : ℕ) → 0 + p ≡ p
    zero_plus p = omega arith
gather_at f a (x ∷ ls) (suc i) p h k =
    let q : sum (λ k. length (f (get_or (x ∷ ls) k a))) (up_to (suc i)) + p ≡ length (f x) + (sum (λ k. length (f (get_or ls k a))) (up_to i) + p) =
    omega (arith, sum_shift (λ k. length (f (get_or (x ∷ ls) k a))) i) in
    ap (λ j. get_or (f x ++ gather f ls) j 0) q
    ∙ get_or-append-add (f x) (gather f ls) (sum (λ k. length (f (get_or ls k a))) (up_to i) + p) 0
    ∙ gather_at f a ls i p (omega arith) k

range_at_law : (i n j : ℕ) → j < n → get_or (range i n) j 0 ≡ i + j
range_at_law i zero j h = absurd (omega arith)
range_at_law i (suc n) zero h = omega arith
range_at_law i (suc n) (suc j) h = omega (arith, range_at_law (suc i) n j (omega arith))

-- the rank of an entry in a surveyor's list, in a stand's
list_rank : (x : Entry) (xs : List Entry) → T (has x xs) → get_or (range 1 (length xs)) (position x xs - 1) 0 ≡ position x xs
list_rank x xs t = omega (arith, range_at_law 1 (length xs) (position x xs - 1) (omega (arith, position_in_law x xs t, position_pos x xs)), position_pos x xs)

ranking_rank : (x : Entry) (R : Ranking) → T (has x (entries R)) → get_or (ranking_ranks R) (position x (entries R) - 1) 0 ≡ position x R.strict
ranking_rank x R t = by-test (has x R.strict)
    (λ s. ap (λ p. get_or (ranking_ranks R) (p - 1) 0) (position_left x R.strict R.tied s)
    ∙ get_or-append (range 1 (length R.strict)) (replicate (length R.tied) (suc (length R.strict))) 0 (position x R.strict - 1)
    (omega (arith, range_length 1 (length R.strict), position_in_law x R.strict s, position_pos x R.strict))
    ∙ list_rank x R.strict s)
    (λ n. let d = in_tie n in
    ap (λ p. get_or (ranking_ranks R) p 0) (behind n)
    ∙ get_or-append-add (range 1 (length R.strict)) (replicate (length R.tied) (suc (length R.strict))) (position x R.tied - 1) 0
    ∙ get_or-replicate (length R.tied) (position x R.tied - 1) (suc (length R.strict)) 0
    (omega (arith, position_in_law x R.tied d, position_pos x R.tied))
    ∙ sym (position_out x R.strict n))
  where
    in_tie : T (not (has x R.strict)) → T (has x R.tied)
    in_tie n = ⊎_elim (λ s. absurd (T_not (has x R.strict) n s)) (λ s. s)
        (or_case (has x R.strict) (has x R.tied) (subst T (any_append (same x) R.strict R.tied) t))

    behind : T (not (has x R.strict)) → position x (entries R) - 1 ≡ length (range 1 (length R.strict)) + (position x R.tied - 1)
    behind n = omega (arith, position_right x R.strict R.tied n, range_length 1 (length R.strict), position_pos x R.tied)

module _ (r : Roster) (ok : T (fits r)) where
  abbrev ranks : List ℕ
  ranks = roster_ranks r

  -- each list has as many ranks as entries
  length_s : (xs : List Entry) → length (range 1 (length xs)) ≡ length xs
  length_s xs = range_length 1 (length xs)

  length_t : (R : Ranking) → length (ranking_ranks R) ≡ length (entries R)
  length_t R = omega (
    arith,
    length-append (range 1 (length R.strict)) (replicate (length R.tied) (suc (length R.strict))),
    range_length 1 (length R.strict),
    length-replicate (length R.tied) (suc (length R.strict)),
    length-append R.strict R.tied,
  )

  abbrev part_s : List ℕ
  part_s = gather (λ xs. range 1 (length xs)) r.lists_s

  part_s_length : length part_s ≡ total_s r.lists_s
  part_s_length =
      sum_length part_s
      ∙ sum_gather (λ n. 1) (λ xs. range 1 (length xs)) r.lists_s
      ∙ sum_cong (λ xs. sum (λ n. 1) (range 1 (length xs))) length r.lists_s (λ xs m. sym (sum_length (range 1 (length xs))) ∙ length_s xs)

  rank_s_law : (e : ℕ) → e < length (edges_of r) → let x = edge_at (edges_of r) e in get_or ranks (place_s r x.surveyor x.stand x.shift) 0 ≡ x.rank_s
  unfolding roster_ranks place_s instance_of
  rank_s_law e h =
      get_or-append part_s (gather ranking_ranks r.lists_t) 0 place inside
      ∙ ap (λ n. get_or part_s (n + (p - 1)) 0) (sum_cong (λ a. length (list_s r a)) (λ a. length (range 1 (length (list_s r a)))) (up_to i)
      (λ a m. sym (length_s (list_s r a))))
      ∙ gather_at (λ xs. range 1 (length xs)) [] r.lists_s i (p - 1) i_in (omega (arith, length_s (list_s r i), p_in, position_pos y (list_s r i)))
      ∙ list_rank y (list_s r i) (has_s r ok e h)
      ∙ sym (rank_s_is r ok e h)
    where
      i : ℕ
      i = (edge_at (edges_of r) e).surveyor

      y : Entry
      y = entry (edge_at (edges_of r) e).stand (edge_at (edges_of r) e).shift

      p : ℕ
      p = position y (list_s r i)

      place : ℕ
      place = sum (λ a. length (list_s r a)) (up_to i) + (p - 1)

      p_in : p ≤ length (list_s r i)
      p_in = position_in_law y (list_s r i) (has_s r ok e h)

      i_in : i < length r.lists_s
      i_in = omega (arith, lists_count r ok, (lawful r ok).at_s.inside e h)

      inside : place < length part_s
      inside = omega (
        arith,
        part_s_length,
        total_s_law r ok,
        place_below (λ x. (edge_at (edges_of r) x).surveyor) (λ x. (edge_at (edges_of r) x).rank_s)
            (length (edges_of r)) e h,
        place_s_law r ok e h,
      )

  rank_t_law : (e : ℕ) → e < length (edges_of r) → let x = edge_at (edges_of r) e in get_or ranks (place_t r x.surveyor x.stand x.shift) 0 ≡ x.rank_t
  unfolding roster_ranks place_t instance_of
  rank_t_law e h =
      ap (λ n. get_or ranks (n + (sum (λ b. length (entries (list_t r b))) (up_to j) + (p - 1))) 0) (sym part_s_length)
      ∙ get_or-append-add part_s (gather ranking_ranks r.lists_t) (sum (λ b. length (entries (list_t r b))) (up_to j) + (p - 1)) 0
      ∙ ap (λ n. get_or (gather ranking_ranks r.lists_t) (n + (p - 1)) 0)
      (sum_cong (λ b. length (entries (list_t r b))) (λ b. length (ranking_ranks (list_t r b))) (up_to j) (λ b m. sym (length_t (list_t r b))))
      ∙ gather_at ranking_ranks (record { strict = []; tied = [] }) r.lists_t j (p - 1) j_in
      (omega (arith, length_t (list_t r j), p_in, position_pos y (entries (list_t r j))))
      ∙ ranking_rank y (list_t r j) (has_t r ok e h)
      ∙ sym (rank_t_is r ok e h)
    where
      j : ℕ
      j = (edge_at (edges_of r) e).stand

      y : Entry
      y = entry (edge_at (edges_of r) e).surveyor (edge_at (edges_of r) e).shift

      p : ℕ
      p = position y (entries (list_t r j))

      p_in : p ≤ length (entries (list_t r j))
      p_in = position_in_law y (entries (list_t r j)) (has_t r ok e h)

      j_in : j < length r.lists_t
      j_in = omega (arith, rankings_count r ok, (lawful r ok).at_t.inside e h)

  -- the roster's ranks give the roster's votes
  pub settled_vote : (M N : Plan) → M ∈ plans_of (instance_of r) → N ∈ plans_of (instance_of r) → vote_of (ranked r ranks) M N ≡ vote_of (instance_of r) M N
  unfolding ranked instance_of
  settled_vote M N mM mN = vote_alike G (on M) (on N) (match mM) (match mN) G.rank_s G.rank_t
      (λ e. get_or ranks (place_s r (G.sv e) (G.st e) (G.sh e)) 0) (λ e. get_or ranks (place_t r (G.sv e) (G.st e) (G.sh e)) 0)
      (lawful r ok).at_s.placed (lawful r ok).at_t.placed
      (λ e l. subst (λ z. z < empty_rank) (sym (rank_s_law e l)) ((lawful r ok).at_s.placed e l))
      (λ e l. subst (λ z. z < empty_rank) (sym (rank_t_law e l)) ((lawful r ok).at_t.placed e l))
      ((λ d l a b. sym (rank_s_law d l)), λ d l a b. sym (rank_s_law d l)) ((λ d l a b. sym (rank_t_law d l)), λ d l a b. sym (rank_t_law d l))
    where
      G : Instance
      G = instance_of r

      match : {L : Plan} → L ∈ plans_of (instance_of r) → Matching (instance_of r) (on L)
      match {L} m = within_matching (instance_of r) (on L) (lawful r ok) (plan_within (instance_of r) m)

module _ (r : Roster) (ok : T (fits r)) where
  abbrev settled : List Range
  settled = map settled_at (roster_ranks r)

  -- "it is the ordinary vote"
  pub settled_least : (M N : Plan) → M ∈ plans_of (instance_of r) → N ∈ plans_of (instance_of r)
      → vote_of (ranked r (choice_of r M N settled)) M N ≡ vote_of (instance_of r) M N
  settled_least M N mM mN =
      ap (λ ws. vote_of (ranked r ws) M N)
      (settled_choice (roster_ranks r) (choice_of r M N settled) (worst_choice_law (instance_of r) (on M) (on N) settled (settled_fit r ok)))
      ∙ settled_vote r ok M N mM mN
