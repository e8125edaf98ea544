-- The model's test that a set of edges is within the quotas says what it should, also where no edge can lie; and it says so of the edges
-- alone.
use Rattle.std.specs.Prelude.{ℕ, ◌≤◌, ◌<◌, ◌≡◌, Bool, T, leb}
use Rattle.std.proofs.Common.{arith, sym, subst, leb→le, le→leb}
use Rattle.std.proofs.Math.Decide.{dec_lt}
use Rattle.std.proofs.Math.Logic.{by_cases}
use Rattle.lists.specs.Test.{and_l, and_r, and_i}
use Rattle.lists.specs.Sum.{up_to, up_to_∈}
use Rattle.lists.specs.Keep.{all_∈, ∈_all}
use Rattle.model.specs.Instance.{Instance, Side, surveyors, stands, deg}
use Rattle.model.specs.Plans.{within_side, within}
use Rattle.theory_instance.specs.Lawful.{Lawful, Within, Matching, Same}
use Rattle.theory_instance.specs.Degree.{deg_sub, deg_zero}

module _ (K : Side) (M : ℕ → Bool) where
  -- the model's test of one side, whose edges all end at its nodes: the set passes no quota there
  pub within_side_law : ((e : ℕ) → e < K.m → K.end e < K.n) → T (within_side K M) → Within K M
  within_side_law inside t v = by_cases (dec_lt v K.n)
      (λ h. leb→le (deg K M v) (K.quota v) (all_∈ (λ v. leb (deg K M v) (K.quota v)) (up_to K.n) t v (up_to_∈ K.n v h)))
      (λ n. omega (arith, deg_zero K M v (λ e l i s. n (subst (λ z. z < K.n) i (inside e l)))))

  pub side_within : Within K M → T (within_side K M)
  side_within w = ∈_all (λ v. leb (deg K M v) (K.quota v)) (up_to K.n) (λ v m. le→leb (deg K M v) (K.quota v) (w v))

module _ (G : Instance) (M : ℕ → Bool) where
  -- in a lawful instance a set that passes the model's test is within the quotas of both sides
  pub within_matching : Lawful G → T (within G M) → Matching G M
  unfolding within
  within_matching law t = record {
    at_s = within_side_law (surveyors G) M law.at_s.inside (and_l (within_side (surveyors G) M) (within_side (stands G) M) t);
    at_t = within_side_law (stands G) M law.at_t.inside (and_r (within_side (surveyors G) M) (within_side (stands G) M) t);
  }

  -- a set within the quotas of both sides passes the model's test
  pub matching_within : Matching G M → T (within G M)
  unfolding within
  matching_within p = and_i (within_side (surveyors G) M) (within_side (stands G) M) (side_within (surveyors G) M p.at_s) (side_within (stands G) M p.at_t)

-- a set of the same edges as one within the quotas is within them too
pub matching_same : (G : Instance) (M N : ℕ → Bool) → Same G M N → Matching G M → Matching G N
matching_same G M N s p = record { at_s = λ v. omega (arith, p.at_s v, side (surveyors G) s v); at_t = λ v. omega (arith, p.at_t v, side (stands G) s v) }
  where
    side : (K : Side) → ((e : ℕ) → e < K.m → M e ≡ N e) → (v : ℕ) → deg K N v ≤ deg K M v
    side K s v = deg_sub K N M v (λ e l i t. subst T (sym (s e l)) t)
