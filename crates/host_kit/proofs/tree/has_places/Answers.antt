use Rattle.std.proofs.Common.{ap, sym, ◌∙◌, nat_eq, length}
use Rattle.serde_json.proofs.Views.{items_len-items_view}
use Rattle.host_kit.specs.Forms.{items_count}
use Rattle.host_kit.proofs.tree.has_places.Goals as goal

pub returns-in-Some : goal.returns-in-Some
returns-in-Some c =
    ap (λ n. nat_eq n c.args.count) (ap length c.as_slice.ensures.value ∙ sym (items_len-items_view c.in-Some.places.now.items))
    ∙ ap (items_count c.args.count) c.in-Some.ensures
