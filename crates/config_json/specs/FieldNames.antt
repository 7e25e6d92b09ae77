-- The fields of a configuration file, each by its two spellings.
use Rattle.proto_json.specs.Fields.{Name, spelled}
use Rattle.config_json.specs.declared.field_names.TheConstants as spellings

abbrev pub name : Name
name = spelled spellings.NAME

abbrev pub domain : Name
domain = spelled spellings.DOMAIN

abbrev pub descriptors : Name
descriptors = spelled spellings.DESCRIPTORS

abbrev pub key : Name
key = spelled spellings.KEY

abbrev pub value : Name
value = spelled spellings.VALUE

abbrev pub rate_limit : Name
rate_limit = spelled spellings.RATE_LIMIT

abbrev pub shadow_mode : Name
shadow_mode = spelled spellings.SHADOW_MODE

abbrev pub detailed_metric : Name
detailed_metric = spelled spellings.DETAILED_METRIC

abbrev pub unit : Name
unit = spelled spellings.UNIT

abbrev pub requests_per_unit : Name
requests_per_unit = spelled spellings.REQUESTS_PER_UNIT

abbrev pub unlimited : Name
unlimited = spelled spellings.UNLIMITED

abbrev pub replaces : Name
replaces = spelled spellings.REPLACES
