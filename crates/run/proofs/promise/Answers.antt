use Rattle.run.proofs.Rounds.{alike}
use Rattle.run.proofs.EachKind.{good_whole}
use Rattle.run.proofs.Sessions.{promise}
use Rattle.run.specs.Session.{many_rounds}
use Rattle.run.specs.Statements.{whole}
use Rattle.run.proofs.promise.Goals as goal

pub returns : goal.returns
returns g c =
    let m = g.H.Host.meaning in
    record {
      promise = λ r. promise _ m g.H.Host.laws (g.R.Resolver.answers r);
      ends =
          λ r rule w limit rounds s small fewer le.
          alike m w limit rounds many_rounds fewer small (whole m (g.R.Resolver.answers r) rule) (good_whole m w (g.R.Resolver.answers r) rule).proper s le;
    }
