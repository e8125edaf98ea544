-- What one couple of ranks adds to a sum of votes counted from one up (theory_votes, Score: rate), against how many ranks lie at or below a bar
-- on the left and below it on the right.
use Rattle.std.specs.Prelude.{ℕ, ◌+◌, ◌≤◌, ◌<◌, ◌≡◌, leb, ltb}
use Rattle.std.proofs.Common.{arith, ap, lt-ltb, le-ltb, le-leb}
use Rattle.std.proofs.Math.Decide.{dec_le, dec_lt}
use Rattle.std.proofs.Math.Logic.{by_cases}
use Rattle.std.proofs.lemmas.Bool.{lt-leb}
use Rattle.lists.specs.Test.{bit, bit_one}
use Rattle.theory_votes.specs.Score.{rate}

-- at most x; below x
abbrev pub upto : ℕ → ℕ → ℕ
upto x a = bit (leb a x)

abbrev pub under : ℕ → ℕ → ℕ
under x b = bit (ltb b x)

pub upto_yes : (x a : ℕ) → a ≤ x → upto x a ≡ 1
upto_yes x a h = ap bit (le-leb a x h)

pub upto_no : (x a : ℕ) → x < a → upto x a ≡ 0
upto_no x a h = ap bit (lt-leb a x h)

pub under_yes : (x b : ℕ) → b < x → under x b ≡ 1
under_yes x b h = ap bit (lt-ltb b x h)

pub under_no : (x b : ℕ) → x ≤ b → under x b ≡ 0
under_no x b h = ap bit (le-ltb b x h)

pub rate_worse : (a b : ℕ) → b < a → rate a b ≡ 0
rate_worse a b h = omega (arith, ap bit (le-ltb a b (omega arith)), ap bit (lt-leb a b h))

pub rate_same : (a b : ℕ) → a ≡ b → rate a b ≡ 1
rate_same a b h = omega (arith, ap bit (le-ltb a b (omega arith)), ap bit (le-leb a b (omega arith)))

pub rate_better : (a b : ℕ) → a < b → rate a b ≡ 2
rate_better a b h = omega (arith, ap bit (lt-ltb a b h), ap bit (le-leb a b (omega arith)))

pub rate_≤ : (a b : ℕ) → rate a b ≤ 2
rate_≤ a b = omega (arith, bit_one (ltb a b), bit_one (leb a b))

rate_≥ : (a b : ℕ) → a ≤ b → 1 ≤ rate a b
rate_≥ a b h = omega (arith, ap bit (le-leb a b h))

-- a worse rank has no higher rate
pub rate_falls : (a b c : ℕ) → a ≤ b → rate b c ≤ rate a c
rate_falls a b c h = by_cases (dec_lt c b)
    (λ k. omega (arith, rate_worse b c k))
    (λ k. by_cases (dec_lt b c)
    (λ l. omega (arith, rate_≤ b c, rate_better a c (omega arith)))
    (λ l. omega (arith, rate_same b c (omega arith), rate_≥ a c (omega arith))))

-- one bar: a couple that crosses it counts at least 1
pub bar : (x a b : ℕ) → upto x a ≤ rate a b + under x b
bar x a b = by_cases (dec_lt b x)
    (λ h. omega (arith, under_yes x b h, bit_one (leb a x)))
    (λ n. by_cases (dec_le a x) (λ k. omega (arith, bit_one (leb a x), rate_≥ a b (omega arith))) (λ k. omega (arith, upto_no x a (omega arith))))

-- two bars: a couple that crosses both counts 2
pub bars : (x y a b : ℕ) → x < y → upto x a + upto y a ≤ rate a b + (under x b + under y b)
bars x y a b l = by_cases (dec_lt b x)
    (λ h. omega (arith, under_yes x b h, under_yes y b (omega arith), bit_one (leb a x), bit_one (leb a y)))
    (λ n. by_cases (dec_lt b y)
    (λ h. omega (arith, under_yes y b h, bit_one (leb a y), bar x a b))
    (λ k. by_cases (dec_le a x)
    (λ p. omega (arith, bit_one (leb a x), bit_one (leb a y), rate_better a b (omega arith)))
    (λ p. omega (arith, upto_no x a (omega arith), bar y a b, under_no y b (omega arith)))))
