use Rattle.std.proofs.Common.{map, set, ap, ◌∙◌}
use Rattle.std.proofs.lemmas.List.{map-set}
use Rattle.run_new.proofs.memories.drop_bytes.Goals as goal

pub returns : goal.returns
returns c = map-set (λ d. d.now) c.args.datas.now c.args.place c.no_bytes.result ∙ ap (set (map (λ d. d.now) c.args.datas.now) c.args.place) c.no_bytes.ensures
