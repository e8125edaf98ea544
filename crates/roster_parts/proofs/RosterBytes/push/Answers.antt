-- `roster_parts::RosterBytes::push` meets its contract: there is room for the byte, or nothing can follow. Assumes nothing.
use Rattle.std.proofs.Common.{arith, ◌≡◌, [], ◌∷◌, length, rules}
use Rattle.model.specs.Limits.{roster_size}
use Rattle.roster_parts.specs.Growth.{grown_byte, grown_full}
use Rattle.roster_parts.proofs.RosterBytes.push.Goals as goal

pub returns-then-self-lt-ROSTER_SIZE : goal.returns-then-self-lt-ROSTER_SIZE
returns-then-self-lt-ROSTER_SIZE c =
    let s = c.args.self.now in
    let size : length s.roster ≡ 4262 = search rules in
    record { front = grown_byte c.args.b s.len s.roster c.if-self-lt-ROSTER_SIZE.true size }

pub returns-else-self-lt-ROSTER_SIZE : goal.returns-else-self-lt-ROSTER_SIZE
returns-else-self-lt-ROSTER_SIZE c =
    let s = c.args.self.now in
    let size : length s.roster ≡ 4262 = search rules in
    let full : s.len ≡ roster_size = omega (arith, s.few, c.if-self-lt-ROSTER_SIZE.false) in
    record { front = grown_full (c.args.b ∷ []) s.len s.roster size full }
