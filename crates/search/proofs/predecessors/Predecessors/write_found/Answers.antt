use Rattle.std.proofs.Common.{◌≡◌, ◌-◌, length, sym, refl, subst, arith}
use borrow.Rule.Slice.PartMut.{post_of}
use Rattle.std.proofs.lemmas.List.{take_at, length-take}
use Rattle.rounds.specs.Lists.{Turned}
use Rattle.search.specs.Back.{legs_of}
use Rattle.search.proofs.WalkingBack.{traced}
use Rattle.search.proofs.predecessors.Predecessors.write_found.Goals as goal

pub write_round-requires-clause-repeat : goal.write_round-requires-clause-repeat
write_round-requires-clause-repeat g c = traced c.args.self.now.led c.requires.known.repeats

pub returns : goal.returns
returns g c =
    let s = c.args.self.now in
    let known = c.requires.known in
    let r = c.args.found.repeat in
    let long : length c.write_round.new.out ≡ r.legs
    = omega (arith, c.write_round.auto.out, length-take (r.legs - 0) c.args.round.now, known.repeats.first.deep, known.repeats.deep, s.led.few, c.requires.round) in
    record {
      found = c.args.found;
      known = known;
      legs_are = refl;
      rate_is = refl;
      turned = subst (Turned (legs_of (g.C.Chart.meaning s.chart.now) s.width s.numbers.now r))
          (sym (take_at c.write_round.new.out (post_of 0 (r.legs - 0) c.args.round.now) r.legs long)) c.write_round.ensures;
    }
