-- `roster_parts::RosterBytes::append` meets its contract: as many bytes as there is room for are copied. Assumes nothing.
use Rattle.std.proofs.Common.{◌+◌, ◌-◌, ◌≡◌, ◌++◌, ap, ◌∙◌, arith, length, take, length-take, rules}
use Rattle.std.proofs.lemmas.Slice.{take-put_mid}
use Rattle.roster_parts.specs.Growth.{grown_part}
use Rattle.roster_parts.proofs.RosterBytes.append.Goals as goal

pub returns : goal.returns
returns c =
    let s = c.args.self.now in
    let k = c.min.result in
    let part = c.args.part.now in
    let copied = c.copy_from_slice.new.self in
    let long : length s.roster ≡ 4262 = search rules in
    let size : s.len + k - s.len ≡ k = omega arith in
    let after : copied ≡ take k part = c.copy_from_slice.ensures.after ∙ ap (λ j. take j part) size in
    record {
      front = grown_part part s.len k s.roster _ s.few long c.min.ensures
          (take-put_mid s.len (s.len + k - s.len) s.roster copied (s.len + k) (omega (arith, ap length after, length-take k part, c.min.ensures)) (omega (arith, s.few))
          ∙ ap (λ z. take s.len s.roster ++ z) after);
    }
