-- `roster_with::quota_sum` meets its contract: the chain adds the quotas, of which each is a byte. Assumes nothing.
use Rattle.std.proofs.Common.{rules, ℕ, suc, ◌*◌, ◌≡◌, ◌≤◌, ◌<◌, List, [], ◌∷◌, length, get_or, zero-le, arith, refl, sym, ◌∙◌}
use Rattle.std.specs.List as std
use Rattle.std.proofs.lemmas.List.Recursion.{is_sum_by}
use Rattle.lists.specs.Sum.{sum}
use Rattle.roster_with.proofs.quota_sum.Goals as goal

bound : (xs : List ℕ) → ((i : ℕ) → get_or xs i 0 < 256) → sum (λ q. q) xs ≤ 255 * length xs
bound [] h = zero-le
bound (x ∷ xs) h = omega (arith, h 0, bound xs (λ i. h (suc i)))

pub returns : goal.returns
returns c =
    let xs = c.args.quotas.now in
    let e : c.sum.result ≡ std.sum xs = search rules in
    let s : c.sum.result ≡ sum (λ q. q) xs = e ∙ sym (is_sum_by (sum (λ q. q)) (λ q. q) refl (λ x ys. refl) xs) in
    (s, omega (arith, s, bound xs (λ i. omega (arith, c.type_inv.quotas i))))
