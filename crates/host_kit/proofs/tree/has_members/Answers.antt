use Rattle.std.proofs.Common.{ap, sym, ◌∙◌, nat_eq}
use Rattle.serde_json.proofs.Views.{members_len-members_view}
use Rattle.host_kit.specs.Forms.{members_count}
use Rattle.host_kit.proofs.tree.has_members.Goals as goal

pub returns-in-Some : goal.returns-in-Some
returns-in-Some c =
    ap (λ n. nat_eq n c.args.count) (c.len.ensures.len ∙ sym (members_len-members_view c.in-Some.members.now.entries))
    ∙ ap (members_count c.args.count) c.in-Some.ensures
