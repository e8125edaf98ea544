-- Two sides beside each other: the edges and nodes of the first, then those of the second. The votes at their nodes add up, and a set is within
-- the quotas exactly if both its parts are. Each node is a part in the sense of Lemma P.
use Rattle.std.specs.Prelude.{ℕ, zero, suc, ◌+◌, ◌-◌, ◌<◌, ◌≡◌, ◌≢◌, Bool, ◌&&◌, T, eqb, leb}
use Rattle.std.proofs.Common.{arith, sym, ap, ap₂, ◌∙◌, subst}
use Rattle.std.proofs.Math.Decide.{dec_lt}
use Rattle.std.proofs.Math.Logic.{by_cases}
use Rattle.lists.specs.Test.{bit, bit_pk, pk, eqb_no, pk_zero, bool_eq, and_l, and_r, and_i, eqb_up}
use Rattle.lists.specs.Sum.{sum, sum_cong, sum_zeros, up_to, up_to_<, up_to_∈, occ}
use Rattle.lists.specs.Keep.{all_∈, ∈_all}
use Rattle.lists.specs.Occur.{sum_at, occ_up_to, occ_<}
use Rattle.model.specs.Instance.{Side, deg}
use Rattle.model.specs.Plans.{within_side}
use Rattle.theory_renamed.specs.Part.{Part, part_deg}

pub record Beside (K A B : Side) : Type 0 where
  pub edges : K.m ≡ A.m + B.m
  pub nodes : K.n ≡ A.n + B.n
  pub end_a : (e : ℕ) → e < A.m → K.end e ≡ A.end e
  pub end_b : (e : ℕ) → e < B.m → K.end (A.m + e) ≡ A.n + B.end e
  pub rank_a : (e : ℕ) → e < A.m → K.rank e ≡ A.rank e
  pub rank_b : (e : ℕ) → e < B.m → K.rank (A.m + e) ≡ B.rank e
  pub quota_a : (v : ℕ) → v < A.n → K.quota v ≡ A.quota v
  pub quota_b : (v : ℕ) → v < B.n → K.quota (A.n + v) ≡ B.quota v
  pub inside_a : (e : ℕ) → e < A.m → A.end e < A.n
  pub inside_b : (e : ℕ) → e < B.m → B.end e < B.n

pub sum_split : (f : ℕ → ℕ) (a b : ℕ) → sum f (up_to (a + b)) ≡ sum f (up_to a) + sum (λ v. f (a + v)) (up_to b)
sum_split f a zero =
    let e : a + 0 ≡ a = omega arith in
    let r : sum f (up_to a) ≡ sum f (up_to a) + 0 = omega arith in
    ap (λ n. sum f (up_to n)) e ∙ r
sum_split f a (suc b) =
    let e : a + suc b ≡ suc (a + b) = omega arith in
    let r : sum f (up_to (suc (a + b))) ≡ sum f (up_to a) + (f (a + b) + sum (λ v. f (a + v)) (up_to b)) = omega (arith, sum_split f a b) in
    ap (λ n. sum f (up_to n)) e ∙ r

module _ (K A B : Side) (S : Beside K A B) where
  -- what the second has of a set
  abbrev second : (ℕ → Bool) → ℕ → Bool
  second P e = P (A.m + e)

  -- ---- a node of the first, a node of the second
  none : (u : ℕ) → ¬ (u < A.m) → occ u (up_to A.m) ≡ 0
  none u h = by_cases (dec_lt 0 (occ u (up_to A.m))) (λ k. absurd (h (occ_< A.m u k))) (λ k. omega arith)

  beyond : (u v : ℕ) → v < A.n → u < K.m → ¬ (u < A.m) → K.end u ≢ v
  beyond u v lv l h q =
      let e : A.m + (u - A.m) ≡ u = omega arith in
      omega (arith, ap K.end e, S.end_b (u - A.m) (omega (arith, S.edges)))

  pub part_a : (v : ℕ) → v < A.n → Part A K (λ e. e) v v
  part_a v lv = record {
    into = λ e l q. omega (arith, S.edges);
    rank = λ e l q. S.rank_a e l;
    once = λ u l. sum_at (λ e. eqb (A.end e) v) u (up_to A.m) ∙ by_cases (dec_lt u A.m)
        (λ h. ap (λ n. pk (eqb (A.end u) v) n) (occ_up_to A.m u h) ∙ sym (bit_pk (eqb (A.end u) v)) ∙ ap (λ x. bit (eqb x v)) (sym (S.end_a u h)))
        (λ h. pk_zero (eqb (A.end u) v) (none u h) ∙ sym (ap bit (eqb_no (K.end u) v (beyond u v lv l h))));
  }

  later : (v u : ℕ) → u < K.m → ¬ (u < A.m)
      → sum (λ e. pk (eqb (B.end e) v) (bit (eqb (A.m + e) u))) (up_to B.m) ≡ bit (eqb (K.end u) (A.n + v))
  later v u l h =
      let w = u - A.m in
      let e : u ≡ A.m + (u - A.m) = omega arith in
      let lw : u - A.m < B.m = omega (arith, S.edges) in
      sum_cong (λ d. pk (eqb (B.end d) v) (bit (eqb (A.m + d) u))) (λ d. pk (eqb (B.end d) v) (bit (eqb d w))) (up_to B.m)
      (λ d i. ap (λ b. pk (eqb (B.end d) v) (bit b)) (ap (eqb (A.m + d)) e ∙ eqb_up A.m d w))
      ∙ sum_at (λ d. eqb (B.end d) v) w (up_to B.m) ∙ ap (λ n. pk (eqb (B.end w) v) n) (occ_up_to B.m w lw) ∙ sym (bit_pk (eqb (B.end w) v))
      ∙ sym (ap bit (ap (λ x. eqb x (A.n + v)) (ap K.end e ∙ S.end_b w lw) ∙ eqb_up A.n (B.end w) v))

  pub part_b : (v : ℕ) → v < B.n → Part B K (λ e. A.m + e) v (A.n + v)
  part_b v lv = record {
    into = λ e l q. omega (arith, S.edges);
    rank = λ e l q. S.rank_b e l;
    once = λ u l. by_cases (dec_lt u A.m)
        (λ h. sum_zeros (λ e. pk (eqb (B.end e) v) (bit (eqb (A.m + e) u))) (up_to B.m)
        (λ e i. pk_zero (eqb (B.end e) v) (ap bit (eqb_no (A.m + e) u (λ q. absurd (omega arith)))))
        ∙ sym (ap bit (eqb_no (K.end u) (A.n + v) (λ q. absurd (omega (arith, S.end_a u h, S.inside_a u h))))))
        (λ h. later v u l h);
  }

  pub deg_a : (P : ℕ → Bool) (v : ℕ) → v < A.n → deg A P v ≡ deg K P v
  deg_a P v l = part_deg A K (λ e. e) v v (part_a v l) P

  pub deg_b : (P : ℕ → Bool) (v : ℕ) → v < B.n → deg B (second P) v ≡ deg K P (A.n + v)
  deg_b P v l = part_deg B K (λ e. A.m + e) v (A.n + v) (part_b v l) P

  pub quotas_add : sum K.quota (up_to K.n) ≡ sum A.quota (up_to A.n) + sum B.quota (up_to B.n)
  quotas_add = ap (λ n. sum K.quota (up_to n)) S.nodes ∙ sum_split K.quota A.n B.n
      ∙ ap₂ ◌+◌ (sum_cong K.quota A.quota (up_to A.n) (λ v i. S.quota_a v (up_to_< A.n i)))
      (sum_cong (λ v. K.quota (A.n + v)) B.quota (up_to B.n) (λ v i. S.quota_b v (up_to_< B.n i)))

  -- ---- within the quotas exactly if both parts are
  module _ (P : ℕ → Bool) where
    abbrev room_k : ℕ → Bool
    room_k v = leb (deg K P v) (K.quota v)

    abbrev room_a : ℕ → Bool
    room_a v = leb (deg A P v) (A.quota v)

    abbrev room_b : ℕ → Bool
    room_b v = leb (deg B (second P) v) (B.quota v)

    test_a : (v : ℕ) → v < A.n → room_k v ≡ room_a v
    test_a v l = ap₂ leb (sym (deg_a P v l)) (S.quota_a v l)

    test_b : (v : ℕ) → v < B.n → room_k (A.n + v) ≡ room_b v
    test_b v l = ap₂ leb (sym (deg_b P v l)) (S.quota_b v l)

    abbrev both : Bool
    both = within_side A P && within_side B (second P)

    at_second : T both → (v w : ℕ) → v ≡ A.n + w → w < B.n → T (room_k v)
    at_second t v w e l = subst (λ z. T (room_k z)) (sym e) (subst T (sym (test_b w l))
        (all_∈ room_b (up_to B.n) (and_r (within_side A P) (within_side B (second P)) t) w (up_to_∈ B.n w l)))

    pub within_both : within_side K P ≡ both
    within_both = bool_eq (within_side K P) both
        (λ t. and_i (within_side A P) (within_side B (second P))
        (∈_all room_a (up_to A.n) (λ v i. let l = up_to_< A.n i in
        subst T (test_a v l) (all_∈ room_k (up_to K.n) t v (up_to_∈ K.n v (omega (arith, S.nodes))))))
        (∈_all room_b (up_to B.n) (λ v i. let l = up_to_< B.n i in
        subst T (test_b v l) (all_∈ room_k (up_to K.n) t (A.n + v) (up_to_∈ K.n (A.n + v) (omega (arith, S.nodes)))))))
        (λ t. ∈_all room_k (up_to K.n) (λ v i. let l = up_to_< K.n i in by_cases (dec_lt v A.n)
        (λ h. subst T (sym (test_a v h)) (all_∈ room_a (up_to A.n) (and_l (within_side A P) (within_side B (second P)) t) v (up_to_∈ A.n v h)))
        (λ h. at_second t v (v - A.n) (omega arith) (omega (arith, S.nodes)))))
