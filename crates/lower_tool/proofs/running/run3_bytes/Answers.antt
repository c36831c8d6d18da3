use Rattle.std.proofs.Common.{◌≡◌, Ok, List, ℕ, subst}
use Rattle.read_new.specs.Spells.{three}
use Rattle.host_kit.specs.Trace.{events}
use Rattle.module_reading.specs.Reads.{Reads}
use Rattle.lower_tool.specs.Products.{text_of}
use Rattle.lower_tool.specs.Runs.{run_text}
use Rattle.lower_tool.proofs.Refusals.{shown_run3, refused_run3}
use Rattle.lower_tool.proofs.running.run3_bytes.Goals as goal

pub returns-clause-shown : goal.returns-clause-shown
returns-clause-shown c =
    let source = c.in_ok-source.source in
    shown_run3 c.args.bytes c.args.text source c.run3_module.result (λ shown marks. text_of shown ≡ run_text (events (marks c.args.turns))) c.requires
    (subst (λ (b : List ℕ). Reads three b (Ok source)) c.as_slice.ensures c.in_ok-source.ensures.tells) c.run3_module.ensures.shown

pub returns-clause-refused : goal.returns-clause-refused
returns-clause-refused c =
    let source = c.in_ok-source.source in
    refused_run3 c.args.text c.args.bytes source c.run3_module.result c.requires
    (subst (λ (b : List ℕ). Reads three b (Ok source)) c.as_slice.ensures c.in_ok-source.ensures.tells) c.run3_module.ensures.refused
