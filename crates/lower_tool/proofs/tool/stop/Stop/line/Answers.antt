use Rattle.std.proofs.Common.{◌∙◌, ap, ◌++◌, ◌∷◌, [], List, ℕ}
use Rattle.std.proofs.lemmas.Fmt.{contents_after_writes}
use Rattle.lower_tool.specs.Stops.{text_of_stop}
use Rattle.lower_tool.proofs.tool.stop.Stop.line.Goals as goal

pub returns : goal.returns
returns c =
    let written = contents_after_writes _ (λ s. s.bytes) (λ w bs v h. h) _ _ _ c.in_ok-write.ensures.writes in
    written ∙ ap (λ (front : List ℕ). front ++ (text_of_stop c.args.self.now ++ 10 ∷ [])) c.new-line.ensures
