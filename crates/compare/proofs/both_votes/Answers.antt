-- `compare::both_votes` meets its contract: both votes are the model's, and so are the pairings of both. Assumes nothing.
use Rattle.std.proofs.Common.{length}
use Rattle.vote_plans.specs.Votable.{side_arrays, light}
use Rattle.vote_pairings.specs.RosterPairings.{both_asked, room}
use Rattle.compare.proofs.both_votes.Goals as goal

pub plan_votes-both-requires : goal.plan_votes-both-requires
plan_votes-both-requires c =
    let g = c.args.g in
    let p = c.requires.loaded.1 in
    let q = c.requires.loaded.2 in
    let a = light g c.requires.loaded.0 c.args.p.now p.matching in
    let b = light g c.requires.loaded.0 c.args.q.now q.matching in
    record {
      arrays = side_arrays g c.requires.loaded.0;
      light = (a.0, b.0, a.1, b.1);
      listed = (p.listed, q.listed);
    }

pub both_pairings-requires : goal.both_pairings-requires
both_pairings-requires c =
    let a = c.args in
    let L = c.requires.loaded.0 in
    let p = c.requires.loaded.1 in
    let q = c.requires.loaded.2 in record {
      both_asked = both_asked a.g L a.p.now a.q.now p.matching q.matching p.listed q.listed;
      nt_in_bounds = (room a.g L (length a.forward.now) c.requires.pairing_size_in_bounds.0, room a.g L (length a.back.now) c.requires.pairing_size_in_bounds.1);
    }

pub returns : goal.returns
returns c =
    let both = c.plan_votes-both in
    let r = c.both_pairings in
    let g = c.args.g in
    let L = c.requires.loaded.0 in
    let P = c.requires.loaded.1 in
    let Q = c.requires.loaded.2 in
    let p = P.matching in
    let q = Q.matching in record {
      first_value = (
        both.ensures.first g.sh g.tied g.quota_s g.quota_t p q,
        both.ensures.second g.sh g.tied g.quota_s g.quota_t q p,
      );
      paired = record {
        first = r.ensures.plan_faced (both_asked g L c.args.p.now c.args.q.now p q P.listed Q.listed) g.sh g.tied;
        second = r.ensures.plan_faced_2 (both_asked g L c.args.q.now c.args.p.now q p Q.listed P.listed) g.sh g.tied;
      };
    }
