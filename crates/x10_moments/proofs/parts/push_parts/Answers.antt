use Rattle.std.proofs.Common.{◌++◌, codes}
use Rattle.std.specs.String.{string_bytes}
use Rattle.x10_moments.specs.Changes.{bytes_of}
use Rattle.x10_moments.specs.Moments.{list_text, parts_text}
use Rattle.x10_moments.proofs.Pieces.{joined}
use Rattle.x10_moments.proofs.parts.push_parts.Goals as goal

pub returns : goal.returns
unfolding parts_text
returns c =
    let a1 = list_text (codes "{\"stays\":") (bytes_of c.args.old.now.stays.items) (bytes_of c.args.new.now.stays.items) in
    let a2 = list_text (codes ",\"objects\":") (bytes_of c.args.old.now.objects.items) (bytes_of c.args.new.now.objects.items) in
    let a3 = list_text (codes ",\"rails\":") (bytes_of c.args.old.now.rails.items) (bytes_of c.args.new.now.rails.items) in
    let a4 = list_text (codes ",\"texts\":") (bytes_of c.args.old.now.texts.items) (bytes_of c.args.new.now.texts.items) in
    let a5 = list_text (codes ",\"exports\":") (bytes_of c.args.old.now.exports.items) (bytes_of c.args.new.now.exports.items) in
    let a6 = list_text (codes ",\"lines\":") (bytes_of c.args.old.now.lines.items) (bytes_of c.args.new.now.lines.items) in
    let r6 = codes "}" in
    let r5 = a6 ++ r6 in
    let r4 = a5 ++ r5 in
    let r3 = a4 ++ r4 in
    let r2 = a3 ++ r3 in
    let r1 = a2 ++ r2 in
    joined (string_bytes c.args.text.now) (string_bytes c.push_list.new.text) (string_bytes c.push_str.new.self) a1 r1 c.in_ok-push_list.ensures
    (joined (string_bytes c.push_list.new.text) (string_bytes c.push_list-2.new.text) (string_bytes c.push_str.new.self) a2 r2 c.in_ok-push_list-2.ensures
    (joined (string_bytes c.push_list-2.new.text) (string_bytes c.push_list-3.new.text) (string_bytes c.push_str.new.self) a3 r3 c.in_ok-push_list-3.ensures
    (joined (string_bytes c.push_list-3.new.text) (string_bytes c.push_list-4.new.text) (string_bytes c.push_str.new.self) a4 r4 c.in_ok-push_list-4.ensures
    (joined (string_bytes c.push_list-4.new.text) (string_bytes c.push_list-5.new.text) (string_bytes c.push_str.new.self) a5 r5 c.in_ok-push_list-5.ensures
    (joined (string_bytes c.push_list-5.new.text) (string_bytes c.push_list-6.new.text) (string_bytes c.push_str.new.self) a6 r6 c.in_ok-push_list-6.ensures
    (c.in_ok-push_str.ensures.bytes))))))
