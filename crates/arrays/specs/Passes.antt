-- Arrays that loops read and fill: entries below a bound; and an array filled from its front, whose entries below n are those of a
-- function, the rest 0 or false.
use Rattle.std.specs.Prelude.{ℕ, zero, suc, ◌+◌, ◌≤◌, ◌<◌, ◌≡◌, refl, Bool, cond, List, length, get_or, set, replicate, ltb}
use Rattle.std.proofs.Common.{arith, sym, ap, ◌∙◌, subst, length-set, get_or-set_same, get_or-set_other, lt-ltb, le-ltb}
use Rattle.std.proofs.Math.Logic.{by_cases}
use Rattle.std.proofs.lemmas.List.{length-replicate}
use Rattle.lists.specs.Test.{by-eq}
use Rattle.std.proofs.Math.Decide.{dec_lt}
use Rattle.model.specs.Instance.{Instance}
use Rattle.arrays.specs.ArrayInstance.{at, flag, shown}

-- the first n entries are below k
abbrev pub Low : ℕ → List ℕ → ℕ → Type 0
Low n xs k = (e : ℕ) → e < n → at xs e < k

module _ {A : Type 0} (d : A) where
  -- an array that shows f's values below n, and the blank d from n on
  abbrev pub Shows : List A → ℕ → (ℕ → A) → Type 0
  Shows o n f = (e : ℕ) → get_or o e d ≡ cond (ltb e n) (f e) d

  -- an array of blanks shows a blank everywhere
  pub all_blank : (k e : ℕ) → get_or (replicate k d) e d ≡ d
  all_blank zero e = refl
  all_blank (suc k) zero = refl
  all_blank (suc k) (suc e) = all_blank k e

  pub shows_none : (k : ℕ) (f : ℕ → A) → Shows (replicate k d) 0 f
  shows_none k f e = all_blank k e ∙ sym (ap (λ b. cond b (f e) d) (le-ltb e 0 (omega arith)))

  module _ (o : List A) (f : ℕ → A) where
    -- below n such an array shows f's value
    pub shows_at : (n e : ℕ) → Shows o n f → e < n → get_or o e d ≡ f e
    shows_at n e s h = s e ∙ ap (λ b. cond b (f e) d) (lt-ltb e n h)

    -- from n on such an array shows the blank
    pub shows_behind : (n e : ℕ) → Shows o n f → n ≤ e → get_or o e d ≡ d
    shows_behind n e s h = s e ∙ ap (λ b. cond b (f e) d) (le-ltb e n h)

    pub shows_next : (i : ℕ) (v : A) → v ≡ f i → i < length o → Shows o i f → Shows (set o i v) (i + 1) f
    shows_next i v w l s e = by-eq e i
        (λ q b. ap (λ k. get_or (set o i v) k d) q ∙ get_or-set_same o i v d l ∙ w ∙ ap f (sym q) ∙ sym (ap (λ b. cond b (f e) d) (lt-ltb e (i + 1) (omega arith))))
        (λ q b. get_or-set_other o i e v d q ∙ by_cases (dec_lt e i)
        (λ h. shows_at i e s h ∙ sym (ap (λ b. cond b (f e) d) (lt-ltb e (i + 1) (omega arith))))
        (λ n. shows_behind i e s (omega arith) ∙ sym (ap (λ b. cond b (f e) d) (le-ltb e (i + 1) (omega arith)))))

  -- an array of k entries, filled up to n: what a loop keeps, from its start, turn by turn
  pub record Fill (k : ℕ) (o : List A) (n : ℕ) (f : ℕ → A) : Type 0 where
    pub size : length o ≡ k
    pub shows : Shows o n f

  -- a loop's start: an array of k blanks, nothing filled
  pub fill_none : (k : ℕ) (f : ℕ → A) → Fill k (replicate k d) 0 f
  fill_none k f = record { size = length-replicate k d; shows = shows_none k f }

  -- one turn: f's value is stored at i, and the array is filled up to i + 1
  pub fill_next : (k : ℕ) (o : List A) (f : ℕ → A) (i : ℕ) (v : A) → v ≡ f i → i < k → Fill k o i f → Fill k (set o i v) (i + 1) f
  fill_next k o f i v w l F = record { size = length-set o i v ∙ F.size; shows = shows_next o f i v w (subst (λ z. i < z) (sym F.size) l) F.shows }

  -- an entry below n, where the array is filled, is f's value
  pub fill_at : {k n : ℕ} {o : List A} {f : ℕ → A} → Fill k o n f → (e : ℕ) → e < n → get_or o e d ≡ f e
  fill_at {k} {n} {o} {f} F e h = shows_at o f n e F.shows h

-- arrays that show an instance number by number show the instance
pub shown_is : (m ns nt : ℕ) (sv st rank_s rank_t sh : List ℕ) (tied : List Bool) (quota_s quota_t : List ℕ) (G : Instance)
    → m ≡ G.m → ns ≡ G.ns → nt ≡ G.nt → ((e : ℕ) → at sv e ≡ G.sv e) → ((e : ℕ) → at st e ≡ G.st e)
    → ((e : ℕ) → at rank_s e ≡ G.rank_s e) → ((e : ℕ) → at rank_t e ≡ G.rank_t e) → ((e : ℕ) → at sh e ≡ G.sh e) → ((e : ℕ) → flag tied e ≡ G.tied e)
    → ((i : ℕ) → at quota_s i ≡ G.quota_s i) → ((j : ℕ) → at quota_t j ≡ G.quota_t j)
    → shown m ns nt sv st rank_s rank_t sh tied quota_s quota_t ≡ G
shown_is m ns nt sv st rank_s rank_t sh tied quota_s quota_t G a b c p q r s z t u v = λ k. record {
  m = a k;
  ns = b k;
  nt = c k;
  sv = λ e. p e k;
  st = λ e. q e k;
  sh = λ e. z e k;
  rank_s = λ e. r e k;
  rank_t = λ e. s e k;
  tied = λ e. t e k;
  quota_s = λ i. u i k;
  quota_t = λ j. v j k;
}
