-- By computation.
use Rattle.std.proofs.Common.{refl}
use Rattle.std.specs.Str.{is_utf8}
use Rattle.x10_model.specs.Frames.{item_bytes, blob_bytes, node_bytes, graph_bytes, launch_bytes, spelling}
use Rattle.x10_model.specs.Readers.{bind, done, check, such_that, expect, given, part, byte, number, int, many, all_of}
use Rattle.x10_model.specs.ReadingFrames.{place_at, index_at, untagged_at, item_at, length_at, text_at, rail_at, node_at, count_at, graph_at, launch_at, body_at, version_at, after_version, parts_at, frame_at}
use Rattle.x10_model.proofs.frames.examples.Goals as goal

pub returns-clause-spawn : goal.returns-clause-spawn
unfolding spelling launch_bytes graph_bytes node_bytes blob_bytes item_bytes frame_at all_of parts_at version_at after_version place_at body_at
    launch_at graph_at count_at node_at text_at rail_at length_at item_at untagged_at index_at bind done check such_that expect given part byte number
    int many is_utf8
returns-clause-spawn c = record { spelled = refl; read = refl }

pub returns-clause-least : goal.returns-clause-least
unfolding spelling launch_bytes graph_bytes node_bytes blob_bytes item_bytes frame_at all_of parts_at version_at after_version place_at body_at
    launch_at graph_at count_at node_at text_at rail_at length_at item_at untagged_at index_at bind done check such_that expect given part byte number
    int many is_utf8
returns-clause-least c = record { spelled = refl; read = refl }

pub returns-clause-report : goal.returns-clause-report
unfolding spelling launch_bytes graph_bytes node_bytes blob_bytes item_bytes frame_at all_of parts_at version_at after_version place_at body_at
    launch_at graph_at count_at node_at text_at rail_at length_at item_at untagged_at index_at bind done check such_that expect given part byte number
    int many is_utf8
returns-clause-report c = record { spelled = refl; read = refl }

pub returns-clause-cycle : goal.returns-clause-cycle
unfolding spelling launch_bytes graph_bytes node_bytes blob_bytes item_bytes frame_at all_of parts_at version_at after_version place_at body_at
    launch_at graph_at count_at node_at text_at rail_at length_at item_at untagged_at index_at bind done check such_that expect given part byte number
    int many is_utf8
returns-clause-cycle c = record { spelled = refl; read = refl }

pub returns-clause-wide_cycle : goal.returns-clause-wide_cycle
unfolding spelling launch_bytes graph_bytes node_bytes blob_bytes item_bytes frame_at all_of parts_at version_at after_version place_at body_at
    launch_at graph_at count_at node_at text_at rail_at length_at item_at untagged_at index_at bind done check such_that expect given part byte number
    int many is_utf8
returns-clause-wide_cycle c = record { spelled = refl; read = refl }
