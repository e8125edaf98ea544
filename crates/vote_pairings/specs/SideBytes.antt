-- Bytes written into a buffer from a place on, and the bytes of the nodes of one side.
use Prim.Native.Nat.{ℕ, zero, suc, ◌+◌, ◌*◌, ◌/◌, ◌%◌, ◌≤◌, ◌<◌}
use native.Mathlib.Omega.{arith}
use Rattle.std.proofs.Common.{add-one, sym, ap₂, ◌∙◌, append_assoc, append-nil, length-drop, length-set, take-append-drop, take-suc, take_at, drop-drop, length-take-le, drop-set-lt, get_or-set_same}
use Rattle.std.specs.Prelude.{◌≡◌, List, [], ◌∷◌, ◌++◌, get_or, set, take, drop}
use Rattle.std.proofs.Math.Path.{refl, ap}
use Rattle.std.proofs.Math.ListN.{length, length-append}
use Rattle.std.proofs.Math.Seq.{drop-append-add}
use Rattle.std.proofs.lemmas.List.{set_split, take-set-le}
use Rattle.std.proofs.Math.Decide.{dec_le}
use Rattle.std.proofs.Math.Logic.{by_cases}
use Rattle.lists.specs.Sum.{sum, range, up_to}
use Rattle.lists.specs.Keep.{gather}
use Rattle.lists.specs.Ranges.{range_add, gather_append}
use Rattle.model.specs.Limits.{quota_limit}
use Rattle.arrays.specs.ArrayInstance.{at}
use Rattle.theory_votes.specs.Keys.{empty_key, key_bytes}
use Rattle.vote_own_ranks.specs.declared.Ranked.{Ranked}
use Rattle.vote_own_ranks.specs.Own.{blank}
use Rattle.vote_plans.specs.Node.{ranks_in, Ready}
use Rattle.vote_pairings_node.specs.NodePairs.{node_pairs}

-- bytes from a place of a buffer on; the others stay
abbrev pub written : ℕ → List ℕ → List ℕ → List ℕ
written i bs d = (take i d ++ bs) ++ drop (i + length bs) d

pub written_none : (i : ℕ) (d : List ℕ) → written i [] d ≡ d
written_none i d =
    let e : i + 0 ≡ i = omega arith in
    ap₂ (λ l n. l ++ drop n d) (append-nil (take i d)) e ∙ take-append-drop i d

pub written_length : (i : ℕ) (bs d : List ℕ) → i + length bs ≤ length d → length (written i bs d) ≡ length d
written_length i bs d h = omega (
  arith,
  length-append (take i d ++ bs) (drop (i + length bs) d),
  length-append (take i d) bs,
  length-take-le i d (omega arith),
  length-drop (i + length bs) d,
)

-- more bytes behind them
pub written_more : (i : ℕ) (bs cs d : List ℕ) → i + length bs + length cs ≤ length d → written (i + length bs) cs (written i bs d) ≡ written i (bs ++ cs) d
written_more i bs cs d h =
    ap₂ (λ l r. (l ++ cs) ++ r) front behind ∙ ap (λ l. l ++ drop (i + length (bs ++ cs)) d) (append_assoc (take i d) bs cs)
  where
    long : length (take i d ++ bs) ≡ i + length bs
    long = omega (arith, length-append (take i d) bs, length-take-le i d (omega arith))

    front : take (i + length bs) (written i bs d) ≡ take i d ++ bs
    front = take_at (take i d ++ bs) (drop (i + length bs) d) (i + length bs) long

    behind : drop (i + length bs + length cs) (written i bs d) ≡ drop (i + length (bs ++ cs)) d
    behind =
        let p : i + length bs + length cs ≡ length (take i d ++ bs) + length cs = ap (λ n. n + length cs) (sym long) in
        let q : i + length bs + length cs ≡ i + length (bs ++ cs) = omega (arith, length-append bs cs) in
        ap (λ n. drop n (written i bs d)) p ∙ drop-append-add (take i d ++ bs) (drop (i + length bs) d) (length cs)
        ∙ drop-drop (length cs) (i + length bs) d ∙ ap (λ n. drop n d) q

-- two bytes stored one behind the other
pub written_two : (i x y : ℕ) (d : List ℕ) → i + 2 ≤ length d → set (set d i x) (i + 1) y ≡ written i (x ∷ y ∷ []) d
written_two i x y d h =
    set_split (set d i x) (i + 1) y (omega (arith, length-set d i x))
    ∙ ap₂ (λ l r. l ++ y ∷ r) front behind ∙ append_assoc (take i d) (x ∷ []) (y ∷ drop (i + 2) d)
    ∙ sym (append_assoc (take i d) (x ∷ y ∷ []) (drop (i + 2) d))
  where
    front : take (i + 1) (set d i x) ≡ take i d ++ x ∷ []
    front = ap (λ n. take n (set d i x)) (add-one i) ∙ take-suc (set d i x) i 0 (omega (arith, length-set d i x))
        ∙ ap₂ (λ l z. l ++ z ∷ []) (take-set-le i d i x (omega arith)) (get_or-set_same d i x 0 (omega arith))

    behind : drop (suc (i + 1)) (set d i x) ≡ drop (i + 2) d
    behind = let e : suc (i + 1) ≡ i + 2 = omega arith in drop-set-lt (suc (i + 1)) d i x (omega arith) ∙ ap (λ n. drop n d) e

-- ---- the bytes of some pairs
pub key_bytes_length : (ws : List ℕ) → length (key_bytes ws) ≡ 2 * length ws
key_bytes_length [] = refl
key_bytes_length (w ∷ ws) = omega (arith, key_bytes_length ws)

pub key_bytes_next : (keys : List ℕ) (i : ℕ) → i < length keys
    → key_bytes (take (i + 1) keys) ≡ key_bytes (take i keys) ++ (get_or keys i 0 / 64 ∷ get_or keys i 0 % 64 ∷ [])
key_bytes_next keys i h = ap (λ n. key_bytes (take n keys)) (add-one i) ∙ ap key_bytes (take-suc keys i 0 h)
    ∙ gather_append (λ w. w / 64 ∷ w % 64 ∷ []) (take i keys) (get_or keys i 0 ∷ [])

-- ---- the nodes of a side
module _ (a b shared : List Ranked) (quota : List ℕ) where
  abbrev pub keys_at : ℕ → List ℕ
  keys_at v = (node_pairs (ranks_in (get_or a v blank)) (ranks_in (get_or b v blank)) (get_or shared v blank)).keys

  abbrev pub node_out : ℕ → List ℕ
  node_out v = key_bytes (take (at quota v) (keys_at v))

  unfoldable pub side_out : ℕ → List ℕ
  side_out n = gather node_out (range 0 n)

  -- what is asked of a node
  pub record NodeReady (v : ℕ) : Type 0 where
    pub first : Ready (get_or a v blank)
    pub second : Ready (get_or b v blank)
    pub places : at quota v ≤ quota_limit
    pub keys : length (keys_at v) ≡ quota_limit
    pub low : (i : ℕ) → at (keys_at v) i ≤ empty_key

  pub side_none : side_out 0 ≡ []
  unfolding side_out
  side_none = refl

  pub side_next : (v : ℕ) → side_out (v + 1) ≡ side_out v ++ node_out v
  unfolding side_out
  side_next v =
      let z : 0 + v ≡ v = omega arith in
      ap (gather node_out) (range_add 0 v 1) ∙ gather_append node_out (range 0 v) (range (0 + v) 1)
      ∙ ap (λ k. gather node_out (range 0 v) ++ (node_out k ++ [])) z ∙ ap (λ l. gather node_out (range 0 v) ++ l) (append-nil (node_out v))

  pub node_length : (v : ℕ) → NodeReady v → length (node_out v) ≡ 2 * at quota v
  node_length v R = key_bytes_length (take (at quota v) (keys_at v))
      ∙ ap (λ n. 2 * n) (length-take-le (at quota v) (keys_at v) (omega (arith, R.keys, R.places)))

  pub side_length : (n v : ℕ) → ((v : ℕ) → v < n → NodeReady v) → v ≤ n → length (side_out v) ≡ 2 * sum (at quota) (up_to v)
  unfolding side_out
  side_length n zero R h = refl
  side_length n (suc v) R h = omega (
    arith,
    ap length (ap side_out (sym (add-one v)) ∙ side_next v),
    length-append (side_out v) (node_out v),
    side_length n v R (omega arith),
    node_length v (R v (omega arith)),
  )

-- a part of the sum is no more than the sum
pub sum_part : (f : ℕ → ℕ) (v n : ℕ) → v ≤ n → sum f (up_to v) ≤ sum f (up_to n)
sum_part f v zero h = let e : v ≡ 0 = omega arith in omega (arith, ap (λ k. sum f (up_to k)) e)
sum_part f v (suc n) h = by_cases (dec_le v n)
    (λ l. omega (arith, sum_part f v n l))
    (λ k. let e : v ≡ suc n = omega arith in omega (arith, ap (λ k. sum f (up_to k)) e))
