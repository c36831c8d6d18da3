use Rattle.std.proofs.Common.{◌≡◌, [], length, ◌∙◌}
use Rattle.tool_files.specs.Memory.{StandsAt}
use Rattle.tool_files.proofs.PairLemmas.{name_at, content_of-set, IsNamedOnce-set, StandsAt-push, content_of-push, IsNamedOnce-push}
use Rattle.tool_files.proofs.files.pairs.empty_file.Goals as goal

pub returns-in-Some-clause-others : goal.returns-in-Some-clause-others
returns-in-Some-clause-others c =
    let files = c.args.files.now.items in
    let had = c.in-Some.ensures.0 in
    let stands : StandsAt files c.in-Some.place c.args.name.now had = rw c.as_slice.ensures.value at c.in-Some.ensures.1 in
    let name = name_at files c.in-Some.place c.index_mut.result.now c.args.name.now had stands c.index_mut.ensures.value in
    λ other apart. rw name (content_of-set files c.in-Some.place c.args.name.now had c.new.result other stands apart)

pub returns-in-Some-clause-once : goal.returns-in-Some-clause-once
returns-in-Some-clause-once c =
    let files = c.args.files.now.items in
    let had = c.in-Some.ensures.0 in
    let stands : StandsAt files c.in-Some.place c.args.name.now had = rw c.as_slice.ensures.value at c.in-Some.ensures.1 in
    let name = name_at files c.in-Some.place c.index_mut.result.now c.args.name.now had stands c.index_mut.ensures.value in
    rw name (IsNamedOnce-set files c.in-Some.place c.args.name.now had c.new.result stands c.requires)

pub returns-clause-empty : goal.returns-clause-empty
returns-clause-empty c =
    let files = c.args.files.now.items in
    let place : c.len-place.result ≡ length files = c.len-place.ensures ∙ c.args.files.now.ok.0 in
    rw (c.in_ok-push.ensures.items, c.in_ok-name.ensures, c.new-3.ensures, place) (StandsAt-push files c.args.name.now [])

pub returns-clause-others : goal.returns-clause-others
returns-clause-others c =
    λ other apart. rw (c.in_ok-push.ensures.items, c.in_ok-name.ensures) (content_of-push c.args.files.now.items c.args.name.now c.new-3.result other apart)

pub returns-clause-once : goal.returns-clause-once
returns-clause-once c =
    let none = rw c.as_slice.ensures.value at c.in_default.ensures in
    rw (c.in_ok-push.ensures.items, c.in_ok-name.ensures) (IsNamedOnce-push c.args.files.now.items c.args.name.now c.new-3.result none c.requires)
