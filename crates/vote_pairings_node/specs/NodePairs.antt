-- What the code makes of a node's ranks, and that its bytes are the model's.
use Rattle.std.specs.Prelude.{ℕ, ◌+◌, ◌-◌, ◌≤◌, ◌<◌, max, ◌≡◌, refl, Bool, true, false, not, ◌&&◌, List, ◌++◌, map, length, take, replicate, eqb, ltb}
use native.Mathlib.Omega.{arith}
use Rattle.std.proofs.Common.{sym, ap₂, ◌∙◌, subst, length-append, lt-ltb, le-ltb, ⊎_elim}
use Rattle.std.proofs.Math.Path.{ap}
use mathlib.Core.List.Memᴰ
use Rattle.std.proofs.Math.ListN.{length-map}
use Rattle.std.proofs.lemmas.List.{length-replicate}
use Rattle.std.proofs.Math.Seq.{take-append-add}
use Rattle.std.proofs.Math.Decide.{dec_le}
use Rattle.std.proofs.Math.Logic.{by_cases}
use Rattle.lists.specs.Test.{bit}
use Rattle.lists.specs.Sum.{◌∈◌, sum, sum_map, sum_mem, sum_zeros, sum_length, up_to}
use Rattle.lists.specs.Keep.{keep_cong}
use Rattle.model.specs.Limits.{empty_rank, quota_limit}
use Rattle.model.specs.Instance.{Side, deg}
use Rattle.model.specs.Facing.{facing, facing_bytes}
use Rattle.theory_votes.specs.Attained.{common, alone}
use Rattle.theory_votes.specs.Sorted.{replicate_∈, take_replicate}
use Rattle.theory_votes.specs.Rotation.{Columns}
use Rattle.theory_votes.specs.NodeByRotation.{fill, fill_sum, most, room}
use Rattle.theory_votes.specs.RankPairs.{key}
use Rattle.theory_votes.specs.Greedy.{greedy}
use Rattle.theory_votes.proofs.Greedy.{greedy_reaches}
use Rattle.theory_votes.specs.Keys.{empty_key, fill_keys, key_bytes}
use Rattle.theory_votes.proofs.Keys.{facing_key_bytes}
use Rattle.vote_own_ranks.specs.declared.Ranked.{Ranked}
use Rattle.vote_own_ranks.specs.Kept.{ranks_alone}
use Rattle.vote_pairings_node.specs.declared.Pairs.{Pairs}
use Rattle.vote_pairings_node.specs.Pairs.{twin, shared_pairs, ins_each, put_each, Kept}
use Rattle.vote_pairings_node.specs.KeptPairs.{sum_each, sorted_each, all_each, each_kept, shared_kept, sorted_twins}
use Rattle.vote_plans.specs.Node.{Sound, own}

-- the greedy pairs of two lists of ranks, the shorter one filled up
abbrev pub chosen : List ℕ → List ℕ → List (ℕ × ℕ)
chosen xs ys = let k = max (length xs) (length ys) in greedy (fill k xs) (fill k ys)

-- the pairs of a node: each shared rank against itself, and the greedy pairs of the two plans' own ranks put in
unfoldable pub node_pairs : List ℕ → List ℕ → Ranked → Pairs
node_pairs xs ys s = put_each (map key (chosen xs ys)) (shared_pairs s)

-- ---- the greedy pairs have ranks
module _ (xs ys : List ℕ) (lx : (a : ℕ) → a ∈ xs → a ≤ empty_rank) (ly : (a : ℕ) → a ∈ ys → a ≤ empty_rank) where
  abbrev k : ℕ
  k = max (length xs) (length ys)

  full : (n : ℕ) (zs : List ℕ) → length zs ≤ n → length (fill n zs) ≡ n
  full n zs h = omega (arith, sum_length (fill n zs), fill_sum (λ a. 1) n zs, sum_length zs)

  reached : Columns (λ a. a) (fill k xs) (fill k ys) (chosen xs ys)
  reached = (greedy_reaches (fill k xs) (fill k ys) (full k xs (omega arith) ∙ sym (full k ys (omega arith)))).0

  pub chosen_length : length (chosen xs ys) ≡ k
  chosen_length = omega (arith, sum_length (chosen xs ys), reached.on_left (λ a. 1), sum_length (fill k xs), full k xs (omega arith))

  low : (n : ℕ) (zs : List ℕ) → ((a : ℕ) → a ∈ zs → a ≤ empty_rank) → (a : ℕ) → a ∈ fill n zs → a ≤ empty_rank
  low n zs h a m = ⊎_elim (λ i. h a i) (λ i. omega (arith, replicate_∈ (n - length zs) empty_rank a i)) (Memᴰ.append_cases zs m)

  over : ℕ → ℕ
  over a = bit (ltb empty_rank a)

  none_over : (zs : List ℕ) → ((a : ℕ) → a ∈ zs → a ≤ empty_rank) → sum over zs ≡ 0
  unfolding over
  none_over zs h = sum_zeros over zs (λ a m. ap bit (le-ltb empty_rank a (h a m)))

  not_over : (a : ℕ) → over a ≡ 0 → a ≤ empty_rank
  unfolding over
  not_over a e = by_cases (dec_le a empty_rank) (λ h. h) (λ n. absurd (omega (arith, ap bit (lt-ltb empty_rank a (omega arith)))))

  chosen_ranks : (c : ℕ × ℕ) → c ∈ chosen xs ys → (c.0 ≤ empty_rank) × (c.1 ≤ empty_rank)
  chosen_ranks c m = (
    not_over c.0 (omega (arith, sum_mem (λ c. over c.0) m, reached.on_left over, none_over (fill k xs) (low k xs lx))),
    not_over c.1 (omega (arith, sum_mem (λ c. over c.1) m, reached.on_right over, none_over (fill k ys) (low k ys ly))),
  )

  pub chosen_keys : (a : ℕ) → a ∈ map key (chosen xs ys) → a ≤ empty_key
  chosen_keys a m = let (c, i, e) = Memᴰ.of_map key (chosen xs ys) m in omega (arith, chosen_ranks c i)

-- ---- at a node
module _ (K : Side) (M N : ℕ → Bool) (v : ℕ) (placed : (e : ℕ) → e < K.m → K.rank e < empty_rank) (hM : deg K M v ≤ K.quota v)
    (hN : deg K N v ≤ K.quota v) (few : K.quota v ≤ quota_limit) where
  -- the ranks of M's edges that N has too
  abbrev shares : List ℕ
  shares = own K M (λ e. not (N e)) v

  shared_sum : (φ : ℕ → ℕ) → sum φ shares ≡ sum (λ e. φ (K.rank e)) (common K v M N)
  shared_sum φ = ranks_alone K M (λ e. not (N e)) v φ
      ∙ ap (sum (λ e. φ (K.rank e))) (keep_cong (λ e. (M e && not (not (N e))) && eqb (K.end e) v) (λ e. (M e && N e) && eqb (K.end e) v) (up_to K.m)
      (λ e m. ap (λ b. (M e && b) && eqb (K.end e) v) (twice (N e))))
    where
      twice : (b : Bool) → not (not b) ≡ b
      twice true = refl
      twice false = refl

  module _ (a b s : Ranked) (A : Sound (own K M N v) a) (B : Sound (own K N M v) b) (S : Sound shares s) where
    abbrev xs : List ℕ
    xs = own K M N v

    abbrev ys : List ℕ
    ys = own K N M v

    abbrev ws : List ℕ
    ws = ins_each (map key (chosen xs ys)) (map twin shares)

    -- no more pairs than places
    fits : length shares + length (chosen xs ys) ≤ K.quota v
    unfolding most
    fits = omega (
      arith,
      room K M N v placed hM hN,
      chosen_length xs ys A.most B.most,
      sum_length shares,
      shared_sum (λ a. 1),
      sum_length (common K v M N),
      sum_length xs,
      ranks_alone K M N v (λ a. 1),
      sum_length (alone K v M N),
      sum_length ys,
      ranks_alone K N M v (λ a. 1),
      sum_length (alone K v N M),
    )

    ws_length : length ws ≤ K.quota v
    ws_length = omega (
      arith,
      fits,
      sum_length ws,
      sum_each (λ a. 1) (map key (chosen xs ys)) (map twin shares),
      sum_length (map twin shares),
      sum_length (map key (chosen xs ys)),
      length-map shares twin,
      length-map (chosen xs ys) key,
    )

    kept : Kept ws (node_pairs xs ys s)
    unfolding node_pairs
    kept = each_kept (map key (chosen xs ys)) (map twin shares) (shared_pairs s)
        (omega (arith, fits, length-map shares twin, length-map (chosen xs ys) key)) (shared_kept shares s S.kept)

    front : take (K.quota v) (fill_keys quota_limit ws) ≡ fill_keys (K.quota v) ws
    front =
        let e : K.quota v ≡ length ws + (K.quota v - length ws) = omega (arith, ws_length) in
        ap (λ n. take n (fill_keys quota_limit ws)) e ∙ take-append-add ws (replicate (quota_limit - length ws) empty_key) (K.quota v - length ws)
        ∙ ap (λ l. ws ++ l) (take_replicate (K.quota v - length ws) (quota_limit - length ws) empty_key (omega arith))

    keys_low : (a : ℕ) → a ∈ ws → a ≤ empty_key
    keys_low = all_each (λ a. a ≤ empty_key) (map key (chosen xs ys)) (map twin shares) (chosen_keys xs ys A.most B.most)
        (λ a m. let (c, i, e) = Memᴰ.of_map twin shares m in omega (arith, S.most c i))

    pub node_keys : (node_pairs xs ys s).keys ≡ fill_keys quota_limit ws
    node_keys = kept.are

    -- with those of empty places it has eight keys, the highest quota
    pub node_keys_length : length (node_pairs xs ys s).keys ≡ quota_limit
    node_keys_length = ap length node_keys
        ∙ omega (arith, length-append ws (replicate (quota_limit - length ws) empty_key), length-replicate (quota_limit - length ws) empty_key, ws_length)

    -- every key is that of two ranks
    pub node_keys_low : (a : ℕ) → a ∈ (node_pairs xs ys s).keys → a ≤ empty_key
    node_keys_low a m = ⊎_elim (keys_low a) (λ i. omega (arith, replicate_∈ (quota_limit - length ws) empty_key a i))
        (Memᴰ.append_cases ws (subst (λ l. a ∈ l) node_keys m))

    -- the ranks in the first keys, as many as the quota, are the bytes of the node's pairing
    pub node_bytes : key_bytes (take (K.quota v) (node_pairs xs ys s).keys) ≡ facing_bytes (facing K M N v)
    node_bytes = ap key_bytes (ap (take (K.quota v)) node_keys ∙ front)
        ∙ facing_key_bytes K M N v placed hM hN xs ys shares (ranks_alone K M N v) (ranks_alone K N M v) shared_sum A.sorted B.sorted A.most B.most
        ws (sorted_each (map key (chosen xs ys)) (map twin shares) (sorted_twins shares S.sorted)) keys_low
        (λ φ. sum_each φ (map key (chosen xs ys)) (map twin shares) ∙ ap₂ ◌+◌ (sum_map φ twin shares) (sum_map φ key (chosen xs ys)))
