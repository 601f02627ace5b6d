-- By computation.
use Rattle.std.proofs.Common.{refl}
use Rattle.std.specs.Str.{is_utf8, chars}
use Rattle.x10_model.specs.Readers.{bind, done, check, such_that, expect, given, part, byte, number, int, many, all_of}
use Rattle.x10_model.specs.ReadingFrames.{place_at, index_at, untagged_at, item_at, length_at, text_at, rail_at, node_at, count_at, graph_at, launch_at, body_at, version_at, after_version, parts_at, frame_at}
use Rattle.x10_model.proofs.frames.refusals.Goals as goal

pub returns-clause-too_many_roots : goal.returns-clause-too_many_roots
unfolding frame_at all_of parts_at version_at after_version place_at body_at launch_at graph_at count_at node_at text_at rail_at length_at item_at
    untagged_at index_at bind done check such_that expect given part byte number int many is_utf8 chars
returns-clause-too_many_roots c = refl

pub returns-clause-past_table : goal.returns-clause-past_table
unfolding frame_at all_of parts_at version_at after_version place_at body_at launch_at graph_at count_at node_at text_at rail_at length_at item_at
    untagged_at index_at bind done check such_that expect given part byte number int many is_utf8 chars
returns-clause-past_table c = refl

pub returns-clause-not_next : goal.returns-clause-not_next
unfolding frame_at all_of parts_at version_at after_version place_at body_at launch_at graph_at count_at node_at text_at rail_at length_at item_at
    untagged_at index_at bind done check such_that expect given part byte number int many is_utf8 chars
returns-clause-not_next c = refl

pub returns-clause-half_a_class : goal.returns-clause-half_a_class
unfolding frame_at all_of parts_at version_at after_version place_at body_at launch_at graph_at count_at node_at text_at rail_at length_at item_at
    untagged_at index_at bind done check such_that expect given part byte number int many is_utf8 chars
returns-clause-half_a_class c = refl

pub returns-clause-unused_node : goal.returns-clause-unused_node
unfolding frame_at all_of parts_at version_at after_version place_at body_at launch_at graph_at count_at node_at text_at rail_at length_at item_at
    untagged_at index_at bind done check such_that expect given part byte number int many is_utf8 chars
returns-clause-unused_node c = refl

pub returns-clause-too_many_fields : goal.returns-clause-too_many_fields
unfolding frame_at all_of parts_at version_at after_version place_at body_at launch_at graph_at count_at node_at text_at rail_at length_at item_at
    untagged_at index_at bind done check such_that expect given part byte number int many is_utf8 chars
returns-clause-too_many_fields c = refl

pub returns-clause-too_long : goal.returns-clause-too_long
unfolding frame_at all_of parts_at version_at after_version place_at body_at launch_at graph_at count_at node_at text_at rail_at length_at item_at
    untagged_at index_at bind done check such_that expect given part byte number int many is_utf8 chars
returns-clause-too_long c = refl

pub returns-clause-unused_text : goal.returns-clause-unused_text
unfolding frame_at all_of parts_at version_at after_version place_at body_at launch_at graph_at count_at node_at text_at rail_at length_at item_at
    untagged_at index_at bind done check such_that expect given part byte number int many is_utf8 chars
returns-clause-unused_text c = refl

pub returns-clause-not_text : goal.returns-clause-not_text
unfolding frame_at all_of parts_at version_at after_version place_at body_at launch_at graph_at count_at node_at text_at rail_at length_at item_at
    untagged_at index_at bind done check such_that expect given part byte number int many is_utf8 chars
returns-clause-not_text c = refl

pub returns-clause-unknown_tag : goal.returns-clause-unknown_tag
unfolding frame_at all_of parts_at version_at after_version place_at body_at launch_at graph_at count_at node_at text_at rail_at length_at item_at
    untagged_at index_at bind done check such_that expect given part byte number int many is_utf8 chars
returns-clause-unknown_tag c = refl

pub returns-clause-no_place : goal.returns-clause-no_place
unfolding frame_at all_of parts_at version_at after_version place_at body_at launch_at graph_at count_at node_at text_at rail_at length_at item_at
    untagged_at index_at bind done check such_that expect given part byte number int many is_utf8 chars
returns-clause-no_place c = refl

pub returns-clause-no_home : goal.returns-clause-no_home
unfolding frame_at all_of parts_at version_at after_version place_at body_at launch_at graph_at count_at node_at text_at rail_at length_at item_at
    untagged_at index_at bind done check such_that expect given part byte number int many is_utf8 chars
returns-clause-no_home c = refl

pub returns-clause-more_bytes : goal.returns-clause-more_bytes
unfolding frame_at all_of parts_at version_at after_version place_at body_at launch_at graph_at count_at node_at text_at rail_at length_at item_at
    untagged_at index_at bind done check such_that expect given part byte number int many is_utf8 chars
returns-clause-more_bytes c = refl

pub returns-clause-version : goal.returns-clause-version
unfolding frame_at all_of parts_at version_at after_version place_at body_at launch_at graph_at count_at node_at text_at rail_at length_at item_at
    untagged_at index_at bind done check such_that expect given part byte number int many is_utf8 chars
returns-clause-version c = refl

pub returns-clause-frame_type : goal.returns-clause-frame_type
unfolding frame_at all_of parts_at version_at after_version place_at body_at launch_at graph_at count_at node_at text_at rail_at length_at item_at
    untagged_at index_at bind done check such_that expect given part byte number int many is_utf8 chars
returns-clause-frame_type c = refl

pub returns-clause-other_places : goal.returns-clause-other_places
unfolding frame_at all_of parts_at version_at after_version place_at body_at launch_at graph_at count_at node_at text_at rail_at length_at item_at
    untagged_at index_at bind done check such_that expect given part byte number int many is_utf8 chars
returns-clause-other_places c = refl

pub returns-clause-too_many_nodes : goal.returns-clause-too_many_nodes
unfolding frame_at all_of parts_at version_at after_version place_at body_at launch_at graph_at count_at node_at text_at rail_at length_at item_at
    untagged_at index_at bind done check such_that expect given part byte number int many is_utf8 chars
returns-clause-too_many_nodes c = refl

pub returns-clause-half_a_number : goal.returns-clause-half_a_number
unfolding frame_at all_of parts_at version_at after_version place_at body_at launch_at graph_at count_at node_at text_at rail_at length_at item_at
    untagged_at index_at bind done check such_that expect given part byte number int many is_utf8 chars
returns-clause-half_a_number c = refl
