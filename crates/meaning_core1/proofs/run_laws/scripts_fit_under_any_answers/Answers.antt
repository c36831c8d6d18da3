use Rattle.meaning_core1.proofs.run_laws.scripts_fit_under_any_answers.Goals as goal

pub returns : goal.returns
returns c = λ m s grows h. record { globals = h.globals; replies = h.replies; items = h.items }
