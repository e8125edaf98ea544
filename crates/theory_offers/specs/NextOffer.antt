-- What the model's test for the next offer says, and what the stand of an offer keeps.
use Rattle.std.specs.Prelude.{ℕ, ◌≤◌, ◌<◌, ◌≡◌, Bool, not, ◌&&◌, ◌||◌, T, eqb, leb}
use Rattle.std.proofs.Common.{arith, ⊎_elim, T_not, eqb→eq, leb→le}
use Rattle.std.proofs.Math.Dec.{not_T, nleb→lt}
use Rattle.lists.specs.Test.{by-test, and_l, and_r, and_i, or_l, or_r, or_case, eq→eqb}
use Rattle.lists.specs.Search.{low_is}
use Rattle.lists.specs.Sum.{up_to, up_to_∈, up_to_<}
use Rattle.lists.specs.Keep.{any_or, none_∈, all_∈, ∈_all}
use Rattle.model.specs.Instance.{Instance}
use Rattle.model_files.specs.Offers.{Offers, free, best_left, next_offer, kept_at}

module _ (G : Instance) (z : Offers) where
  -- e is a pair that a stand keeps
  abbrev pub In : ℕ → Type 0
  In e = (e < G.m) × T (z.kept e)

  -- ---- who offers, and what
  -- e was not turned away, its surveyor has no stand, and all that the surveyor ranks before e was turned away
  pub record Next (e : ℕ) : Type 0 where
    pub unasked : T (z.away e) → ⊥
    pub alone : (d : ℕ) → In d → G.sv d ≡ G.sv e → ⊥
    pub first : (d : ℕ) → d < G.m → G.sv d ≡ G.sv e → G.rank_s d < G.rank_s e → T (z.away d)

  abbrev behind : ℕ → ℕ → Bool
  behind e d = not (eqb (G.sv d) (G.sv e)) || (z.away d || leb (G.rank_s e) (G.rank_s d))

  abbrev own : ℕ → ℕ → Bool
  own e d = z.kept d && eqb (G.sv d) (G.sv e)

  -- a pair that passes the test: it was not turned away, its surveyor has no stand, and all that is ranked before it was turned away
  pub next→ : (e : ℕ) → T (next_offer G z e) → Next e
  next→ e t = record {
    unasked = λ s. T_not (z.away e) (and_l (not (z.away e)) (free G z e && best_left G z e) t) s;
    alone = λ d (l, k) q. T_not (own e d) (none_∈ (own e) (up_to G.m) (and_l (free G z e) (best_left G z e) rest) d (up_to_∈ G.m d l))
        (and_i (z.kept d) (eqb (G.sv d) (G.sv e)) k (eq→eqb (G.sv d) (G.sv e) q));
    first = λ d l q h. ⊎_elim
        (λ s. absurd (T_not (eqb (G.sv d) (G.sv e)) s (eq→eqb (G.sv d) (G.sv e) q)))
        (λ s. ⊎_elim (λ a. a) (λ k. absurd (let n = leb→le (G.rank_s e) (G.rank_s d) k in omega arith)) (or_case (z.away d) (leb (G.rank_s e) (G.rank_s d)) s))
        (or_case (not (eqb (G.sv d) (G.sv e))) (z.away d || leb (G.rank_s e) (G.rank_s d))
        (all_∈ (behind e) (up_to G.m) (and_r (free G z e) (best_left G z e) rest) d (up_to_∈ G.m d l)));
  }
    where
      rest : T (free G z e && best_left G z e)
      rest = and_r (not (z.away e)) (free G z e && best_left G z e) t

  -- a pair of which this holds passes the test
  pub →next : (e : ℕ) → Next e → T (next_offer G z e)
  →next e x = and_i (not (z.away e)) (free G z e && best_left G z e) (not_T (z.away e) x.unasked) (and_i (free G z e) (best_left G z e)
      (⊎_elim (λ (t, (d, m, s)). absurd (x.alone d (up_to_< G.m m, and_l (z.kept d) (eqb (G.sv d) (G.sv e)) s)
      (eqb→eq (G.sv d) (G.sv e) (and_r (z.kept d) (eqb (G.sv d) (G.sv e)) s)))) (λ (t, h). t) (any_or (own e) (up_to G.m)))
      (∈_all (behind e) (up_to G.m) (λ d m. each d (up_to_< G.m m))))
    where
      each : (d : ℕ) → d < G.m → T (behind e d)
      each d l = by-test (eqb (G.sv d) (G.sv e))
          (λ a. or_r (not (eqb (G.sv d) (G.sv e))) (z.away d || leb (G.rank_s e) (G.rank_s d)) (by-test (leb (G.rank_s e) (G.rank_s d))
          (λ b. or_r (z.away d) (leb (G.rank_s e) (G.rank_s d)) b)
          (λ b. or_l (z.away d) (leb (G.rank_s e) (G.rank_s d)) (x.first d l (eqb→eq (G.sv d) (G.sv e) a) (nleb→lt (G.rank_s e) (G.rank_s d) b)))))
          (λ a. or_l (not (eqb (G.sv d) (G.sv e))) (z.away d || leb (G.rank_s e) (G.rank_s d)) a)

  -- ---- what the stand of e keeps: none, or a pair there
  abbrev there : ℕ → ℕ → Bool
  there e d = z.kept d && eqb (G.st d) (G.st e)

  pub keeps_none : (e : ℕ) → T (leb G.m (kept_at G z e)) → (d : ℕ) → In d → G.st d ≡ G.st e → ⊥
  keeps_none e t d (l, k) q =
      let h : G.m ≤ kept_at G z e = leb→le G.m (kept_at G z e) t in
      T_not (there e d) ((low_is (there e) G.m).1 d (omega arith)) (and_i (z.kept d) (eqb (G.st d) (G.st e)) k (eq→eqb (G.st d) (G.st e) q))

  pub keeps_some : (e : ℕ) → T (not (leb G.m (kept_at G z e))) → In (kept_at G z e) × (G.st (kept_at G z e) ≡ G.st e)
  keeps_some e t =
      let l = nleb→lt G.m (kept_at G z e) t in
      let s : T (there e (kept_at G z e)) = (low_is (there e) G.m).2 l in (
        (l, and_l (z.kept (kept_at G z e)) (eqb (G.st (kept_at G z e)) (G.st e)) s),
        eqb→eq (G.st (kept_at G z e)) (G.st e) (and_r (z.kept (kept_at G z e)) (eqb (G.st (kept_at G z e)) (G.st e)) s),
      )
