use Rattle.std.proofs.Common.{◌≡◌, codes, sym}
use Rattle.std.proofs.lemmas.Slice.Eq.{bytes_eq-Decides}
use Rattle.lower_tool.proofs.WordLemmas.{two_items, three_items, four_items}
use Rattle.lower_tool.proofs.tool.command.parse.Goals as goal

-- the first word is `lower`, and there are three
pub returns-in-len3 : goal.returns-in-len3
returns-in-len3 c =
    let all = three_items c.args.words.now c.word-item-then-words-lt4.result c.input-item-then-words-lt4.result c.output-item.result c.in-len3.len_at_least c.in-len3.len_below c.word-item-then-words-lt4.is c.input-item-then-words-lt4.is c.output-item.is in
    let word : c.as_str-then-words-lt4.result.now ≡ codes "lower" = (bytes_eq-Decides _ _).0 (sym c.if-eq-3.ensures) in
    (tt, cc)

-- the first word is `check1`, and there are two
pub returns-in-len2 : goal.returns-in-len2
returns-in-len2 c =
    let all = two_items c.args.words.now c.word-item.result c.input-item.result c.in-len2.len_at_least c.in-len2.len_below c.word-item.is c.input-item.is in
    let word : c.as_str.result.now ≡ codes "check1" = (bytes_eq-Decides _ _).0 (sym c.if-eq.ensures) in
    cc

-- the first word is `check3`, and there are two
pub returns-in-len2-2 : goal.returns-in-len2-2
returns-in-len2-2 c =
    let all = two_items c.args.words.now c.word-item-then-words-lt3.result c.input-item-then-words-lt3.result c.in-len2.len_at_least c.in-len2.len_below c.word-item-then-words-lt3.is c.input-item-then-words-lt3.is in
    let word : c.as_str-then-words-lt3.result.now ≡ codes "check3" = (bytes_eq-Decides _ _).0 (sym c.if-eq-2.ensures) in
    cc

-- the first word is `lower`, and there are four, the last of which is a number of captures
pub returns-in_ok-room_of-in-len4 : goal.returns-in_ok-room_of-in-len4
returns-in_ok-room_of-in-len4 c =
    let all = four_items c.args.words.now c.word-item-then-words-lt5.result c.input-item-then-words-lt5.result c.output-item-then-words-lt5.result c.room-item.result c.in-len4.len_at_least c.in-len4.len_below c.word-item-then-words-lt5.is c.input-item-then-words-lt5.is c.output-item-then-words-lt5.is c.room-item.is in
    let word : c.as_str-then-words-lt5.result.now ≡ codes "lower" = (bytes_eq-Decides _ _).0 (sym c.if-eq-4.ensures) in
    let number = c.in_ok-room_of-in-len4.ensures.1 in
    (c.in_ok-room_of-in-len4.ensures.0, cc)

-- the first word is `run1`, and there are four, the last of which is a number
pub returns-in_ok-turns_of-in-len4-2 : goal.returns-in_ok-turns_of-in-len4-2
returns-in_ok-turns_of-in-len4-2 c =
    let all = four_items c.args.words.now c.word-item-then-words-lt5-2.result c.input-item-then-words-lt5-2.result c.script-item.result c.turns-item.result c.in-len4.len_at_least c.in-len4.len_below c.word-item-then-words-lt5-2.is c.input-item-then-words-lt5-2.is c.script-item.is c.turns-item.is in
    let word : c.as_str-then-words-lt5-2.result.now ≡ codes "run1" = (bytes_eq-Decides _ _).0 (sym c.if-eq-5.ensures) in
    let number = c.in_ok-turns_of-in-len4-2.ensures.1 in
    (c.in_ok-turns_of-in-len4-2.ensures.0, cc)

-- the first word is `run3`, and there are four, the last of which is a number
pub returns-in_ok-turns_of-in-len4-3 : goal.returns-in_ok-turns_of-in-len4-3
returns-in_ok-turns_of-in-len4-3 c =
    let all = four_items c.args.words.now c.word-item-then-words-lt5-3.result c.input-item-then-words-lt5-3.result c.script-item-then-words-lt5.result c.turns-item-then-words-lt5.result c.in-len4.len_at_least c.in-len4.len_below c.word-item-then-words-lt5-3.is c.input-item-then-words-lt5-3.is c.script-item-then-words-lt5.is c.turns-item-then-words-lt5.is in
    let word : c.as_str-then-words-lt5-3.result.now ≡ codes "run3" = (bytes_eq-Decides _ _).0 (sym c.if-eq-6.ensures) in
    let number = c.in_ok-turns_of-in-len4-3.ensures.1 in
    (c.in_ok-turns_of-in-len4-3.ensures.0, cc)
