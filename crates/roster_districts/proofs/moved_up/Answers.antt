-- `roster_districts::moved_up` meets its contract: each place holds its number moved up. Assumes nothing.
use Rattle.std.proofs.Common.{rules, ℕ, ◌+◌, ◌<◌, ◌≡◌, length, get_or}
use Rattle.roster_districts.specs.Beside.{up_made}
use Rattle.roster_districts.proofs.moved_up.Goals as goal

pub returns : goal.returns
returns c =
    let l : length c.from_fn.result ≡ 33 = search rules in
    let at : (i : ℕ) → i < 33 → get_or c.from_fn.result i 0 ≡ c.args.n + i = search rules in
    up_made c.args.n c.from_fn.result l (λ i h. at i h)
