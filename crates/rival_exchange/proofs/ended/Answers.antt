-- What is gained at both ends is marked.
use Rattle.std.proofs.Common.{arith}
use Rattle.rival_exchange.specs.Ways.{terminal_by}
use Rattle.rival_exchange.specs.Swaps.{blank_one, marks_ends}
use Rattle.rival_exchange.proofs.ended.Goals as goal

pub terminal-t-requires : goal.terminal-t-requires
terminal-t-requires c = (c.requires.0, c.requires.1, c.requires.2, c.requires.3, c.requires.4, c.requires.5, c.requires.6)

pub returns : goal.returns
returns c =
    let a = c.args in
    let t = c.terminal-t in (
      blank_one 1024 1024 a.x c.gained-gone.result (omega (arith, c.requires.5, c.requires.0)) c.gained-gone.ensures,
      marks_ends a.g.now.m t.result
          (terminal_by a.g.now.m a.g.now.sv a.g.now.st a.g.now.rank_s a.g.now.rank_t a.x a.y a.plan.now a.room.now.s a.room.now.t) 1024
          c.gained-first.result c.gained-come.result t.ensures c.gained-first.ensures c.gained-come.ensures,
    )
