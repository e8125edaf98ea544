-- Lemma X: a valid exchange of a plan M, told by its couples and losses on both sides, makes another plan, against which the vote
-- of M is at most what the exchange costs. What such a rival is, `Rival` says over tallies (theory_votes, Score).
use Rattle.std.specs.Prelude.{ℕ, ◌+◌, ◌≤◌, ◌<◌, ◌≡◌, Bool, true, false, ◌&&◌, ◌||◌, List, length, T, ltb}
use Rattle.std.proofs.Common.{arith, sym, ap, ◌∙◌, subst, ltb→lt, nltb→le}
use Rattle.std.proofs.Math.Decide.{dec_lt}
use Rattle.std.proofs.Math.Logic.{by_cases}
use Rattle.std.proofs.Math.Bool.{not}
use Rattle.lists.specs.Test.{pk, T_true}
use Rattle.lists.specs.Sum.{sum, up_to, occ, ∈_occ}
use Rattle.lists.specs.Keep.{All, All-∈}
use Rattle.lists.specs.Occur.{Once, occ_up_to, occ_up_to_≤}
use Rattle.model.specs.Instance.{Instance, surveyors, stands}
use Rattle.theory_instance.specs.Lawful.{Lawful, Matching, Same}
use Rattle.theory_instance.specs.Walk.{Old, New}
use Rattle.theory_votes.specs.Score.{tally, quotas}
use Rattle.theory_votes.specs.Exchange.{Couple, for, against, Swap, goer_is, comer_is, Moves}
use Rattle.theory_votes.specs.Node.{exchange_within, exchange_cost}
use Rattle.theory_verdict.specs.Strong.{Holds}

-- M without R and with F
unfoldable pub swapped : (ℕ → Bool) → List ℕ → List ℕ → ℕ → Bool
swapped M R F e = (M e && not (ltb 0 (occ e R))) || ltb 0 (occ e F)

-- N is another plan, against which the vote of M is at most hi - lo
pub record Rival (G : Instance) (M N : ℕ → Bool) (lo hi : ℕ) : Type 0 where
  pub plan : Matching G N
  pub other : Same G M N → ⊥
  pub vote : tally G M N + lo ≤ quotas G + hi

pub rival_cast : {G : Instance} {M N : ℕ → Bool} {lo hi lo' hi' : ℕ} → Rival G M N lo hi → lo' + hi ≤ lo + hi' → Rival G M N lo' hi'
rival_cast r h = record { plan = r.plan; other = r.other; vote = omega (arith, r.vote) }

pub holds_cost : {G : Instance} {k : ℕ} {M N : ℕ → Bool} {lo hi : ℕ} → Holds G k M → Rival G M N lo hi → k + lo ≤ hi
holds_cost {N = N} h r = omega (arith, h.wins N r.plan r.other, r.vote)

-- ---- the swap
swap_case : (x r f : Bool) (u a b : ℕ) → (T r → 0 < a) → (T (not r) → a ≤ 0) → (T f → 0 < b) → (T (not f) → b ≤ 0) → u ≤ 1 → a ≤ pk x u → b ≤ pk (not x) u
    → (pk (x && ((x && not r) || f)) u + a ≡ pk x u) × (pk (x && ((x && not r) || f)) u + b ≡ pk ((x && not r) || f) u)
swap_case true true true u a b p p' q q' h ha hb = absurd (omega (arith, q tt))
swap_case true true false u a b p p' q q' h ha hb = let s = p tt in let t = q' tt in omega arith
swap_case true false true u a b p p' q q' h ha hb = absurd (omega (arith, q tt))
swap_case true false false u a b p p' q q' h ha hb = let s = p' tt in let t = q' tt in omega arith
swap_case false true f u a b p p' q q' h ha hb = absurd (omega (arith, p tt))
swap_case false false true u a b p p' q q' h ha hb = let s = p' tt in let t = q tt in omega arith
swap_case false false false u a b p p' q q' h ha hb = let s = p' tt in let t = q' tt in omega arith

-- edges of a set, none twice
once_in : (m : ℕ) (S : ℕ → Bool) (xs : List ℕ) → Once xs → All (λ e. (e < m) × T (S e)) xs → (e : ℕ) → occ e xs ≤ pk (S e) (occ e (up_to m))
once_in m S xs u h e = by_cases (dec_lt 0 (occ e xs))
    (λ l. let t = All-∈ (λ e. (e < m) × T (S e)) xs h e (∈_occ e xs l) in
    omega (arith, u e, occ_up_to m e t.0, ap (λ b. pk b (occ e (up_to m))) (T_true {b = S e} t.1)))
    (λ n. omega arith)

module _ (G : Instance) (M : ℕ → Bool) (R F : List ℕ)
    (onceR : Once R) (onceF : Once F) (in_r : All (Old G M) R) (inF : All (New G M) F) where
  swap : Swap G.m M (swapped M R F) R F
  unfolding swapped
  swap = record { goes = λ e. (both e).0; comes = λ e. (both e).1 }
    where
      both : (e : ℕ) → (pk (M e && swapped M R F e) (occ e (up_to G.m)) + occ e R ≡ pk (M e) (occ e (up_to G.m)))
          × (pk (M e && swapped M R F e) (occ e (up_to G.m)) + occ e F ≡ pk (swapped M R F e) (occ e (up_to G.m)))
      both e = swap_case (M e) (ltb 0 (occ e R)) (ltb 0 (occ e F)) (occ e (up_to G.m)) (occ e R) (occ e F)
          (ltb→lt 0 (occ e R)) (nltb→le 0 (occ e R)) (ltb→lt 0 (occ e F)) (nltb→le 0 (occ e F)) (occ_up_to_≤ G.m e) (once_in G.m M R onceR in_r e)
          (once_in G.m (λ d. not (M d)) F onceF inF e)

  differs : (e : ℕ) → 0 < occ e R + occ e F → Same G M (swapped M R F) → ⊥
  differs e h s = by_cases (dec_lt 0 (occ e R))
      (λ l. let (m, n, b) = goer_is G.m M (swapped M R F) R F swap e l in subst T (sym m ∙ s e b ∙ n) tt)
      (λ k. let (n, m, b) = comer_is G.m M (swapped M R F) R F swap e (omega arith) in subst T (sym n ∙ sym (s e b) ∙ m) tt)

  pub X-rival : Lawful G → (c_s : List Couple) (l_s : List ℕ) (c_t : List Couple) (l_t : List ℕ) → Moves (surveyors G) M R F c_s l_s
      → Moves (stands G) M R F c_t l_t → (e : ℕ) → 0 < occ e R + occ e F
      → Rival G M (swapped M R F) (sum (against G.rank_s) c_s + sum (against G.rank_t) c_t)
      ((sum (for G.rank_s) c_s + length l_s) + (sum (for G.rank_t) c_t + length l_t))
  X-rival law c_s l_s c_t l_t mS mT e h = record {
    plan = record {
      at_s = exchange_within (surveyors G) M (swapped M R F) R F swap c_s l_s mS;
      at_t = exchange_within (stands G) M (swapped M R F) R F swap c_t l_t mT;
    };
    other = differs e h;
    vote = omega (
      arith,
      exchange_cost (surveyors G) M (swapped M R F) R F swap c_s l_s mS law.at_s,
      exchange_cost (stands G) M
          (swapped M R F) R F swap c_t l_t mT law.at_t,
    );
  }
