-- ranges_least::ranges_judged: the ranges' refusal, or the answer. Assumes nothing.
use Rattle.std.proofs.Common.{◌≡◌, ◌*◌, arith, sym, ap, subst, ◌∙◌, Err, rules}
use Rattle.answers.specs.RefusalCases.{code_of}
use Rattle.ranges_choice.specs.Choosing.{Lows, lows_in}
use Rattle.instance.specs.Decoded.{shown_by}
use Rattle.ranges_least.specs.Asked.{Asked, asked, asked_refused}
use Rattle.ranges_least.proofs.ranges_judged.Goals as goal

pub returns-in_err-lows : goal.returns-in_err-lows
returns-in_err-lows c =
    let a = c.args in
    let told : c.from_residual.result ≡ Err c.in_err-lows.field-0.0 = search rules in
    subst (λ v. Asked (shown_by a.g) (asked (shown_by a.g) a.p.now a.q.now a.ranges.now a.out.now) a.out.now v a.out.now) (sym told)
    (asked_refused (shown_by a.g) a.p.now a.q.now a.ranges.now a.out.now c.in_err-lows.field-0.0
    (sym (ap code_of c.in_err-lows.was) ∙ c.read_ranges.ensures.refusal))

pub answered-requires : goal.answered-requires
answered-requires c =
    let p = c.requires in
    let r = c.read_ranges.ensures in
    let was = c.in_ok-lows.was in
    let z : code_of c.read_ranges.result ≡ 0 = ap code_of was in
    record {
      loaded = p.loaded;
      in_order_law = (p.in_order_law, omega (arith, r.refusal, z), subst (Lows (2 * c.args.g.m) c.args.ranges.now) (ap lows_in was) (r.lows (omega (arith, z))));
    }
