use Rattle.typed_trees.specs.Typed.{module_of}
use Rattle.pass_law.specs.Hosts.{host_types}
use Rattle.pass_law.specs.Law.{Law}
use Rattle.pass_law.specs.Plans.{then}
use Rattle.pass_law.proofs.ThenLaw.{taken_first, taken_next, then_law, if_ok}
use Rattle.pass_law.proofs.then.ThenPass.lower_owned.Goals as goal

pub lower_owned-requires-clause-takes : goal.lower_owned-requires-clause-takes
lower_owned-requires-clause-takes g c = taken_first g.P.Pass.plan g.Q.Pass.plan (module_of c.args.m) c.requires.takes

pub lower_owned-requires-2-clause-takes : goal.lower_owned-requires-2-clause-takes
lower_owned-requires-2-clause-takes g c =
    let m = module_of c.args.m in
    taken_next g.P.Pass.plan g.Q.Pass.plan g.met.Q.Pass.lawful (host_types m) m (module_of c.in_ok-between.between) c.args.settings.now.captures c.in_ok-between.ensures.law c.requires.takes

pub returns : goal.returns
returns g c =
    let m = module_of c.args.m in
    let between = module_of c.in_ok-between.between in
    let captures = c.args.settings.now.captures in
    record {
      law = if_ok (λ o. Law g.Q.Pass.plan between (module_of o) captures) (λ o. Law (then g.P.Pass.plan g.Q.Pass.plan) m (module_of o) captures) c.lower_owned-2.result
          (λ o h. then_law g.P.Pass.plan g.Q.Pass.plan g.met.P.Pass.lawful g.met.Q.Pass.lawful m between (module_of o) captures c.in_ok-between.ensures.law h) c.lower_owned-2.ensures.law;
    }
