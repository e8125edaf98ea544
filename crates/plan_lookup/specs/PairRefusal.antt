-- The refusal of one pair of a plan file, and what each of its tests says of it.
use Rattle.std.specs.Prelude.{ℕ, ◌≤◌, ◌<◌, ◌≡◌, Bool, cond, ◌||◌, leb, ltb}
use borrow.Author.Tests.{lt-ltb, le-ltb, le-leb, lt-leb}

-- "10 a plan pair not in the roster; 11 plan pairs not strictly ascending; 12 a pair that takes a node past its quota"
unfoldable pub pair_refusal : (m e from : ℕ) (fullS fullT : Bool) → ℕ
pair_refusal m e from fullS fullT = cond (leb m e) 10 (cond (ltb e from) 11 (cond (fullS || fullT) 12 0))

-- ---- by its tests
module _ (m e from : ℕ) (fullS fullT : Bool) where
  pub not_there : m ≤ e → 10 ≡ pair_refusal m e from fullS fullT
  unfolding pair_refusal
  not_there h = simp (le-leb m e h)

  pub not_ascending : e < m → e < from → 11 ≡ pair_refusal m e from fullS fullT
  unfolding pair_refusal
  not_ascending h k = simp (lt-leb m e h, lt-ltb e from k)

  pub by_quota : e < m → from ≤ e → (b : Bool) → fullS || fullT ≡ b → cond b 12 0 ≡ pair_refusal m e from fullS fullT
  unfolding pair_refusal
  by_quota h k b q = simp (lt-leb m e h, le-ltb e from k, q)
