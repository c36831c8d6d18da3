use Rattle.std.proofs.Common.{◌≡◌, Ok, List, ℕ, subst}
use Rattle.core1_bytes.specs.Spells.{one}
use Rattle.host_kit.specs.Trace.{events}
use Rattle.module_reading.specs.Reads.{Reads}
use Rattle.lower_tool.specs.Products.{text_of}
use Rattle.lower_tool.specs.Runs.{run_text}
use Rattle.lower_tool.proofs.Refusals.{shown_run1, refused_run1}
use Rattle.lower_tool.proofs.running.run1_bytes.Goals as goal

pub returns-clause-shown : goal.returns-clause-shown
returns-clause-shown c =
    let source = c.in_ok-source.source in
    shown_run1 c.args.bytes c.args.text source c.run1_module.result (λ shown marks. text_of shown ≡ run_text (events (marks c.args.turns))) c.requires
    (subst (λ (b : List ℕ). Reads one b (Ok source)) c.as_slice.ensures c.in_ok-source.ensures.tells) c.run1_module.ensures.shown

pub returns-clause-refused : goal.returns-clause-refused
returns-clause-refused c =
    let source = c.in_ok-source.source in
    refused_run1 c.args.text c.args.bytes source c.run1_module.result c.requires
    (subst (λ (b : List ℕ). Reads one b (Ok source)) c.as_slice.ensures c.in_ok-source.ensures.tells) c.run1_module.ensures.refused
