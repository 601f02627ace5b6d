-- The header as the program keeps it.
use Rattle.x10_model.specs.Images as images
use Rattle.x10_image.specs.declared.header.Header.{Header}

-- the numbers of a header
abbrev pub seen : Header → images.Header
seen h = record {
  version = h.version;
  least_places = h.least_places;
  classes = h.classes;
  ints = h.ints;
  texts = h.texts;
  functions = h.functions;
  entry = h.entry;
}
