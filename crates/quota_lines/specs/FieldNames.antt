-- The fields of a stream line, each by its two spellings.
use Rattle.proto_json.specs.Fields.{Name, spelled}
use Rattle.quota_lines.specs.declared.field_names.TheConstants as spellings

abbrev pub at : Name
at = spelled spellings.AT

abbrev pub request : Name
request = spelled spellings.REQUEST

abbrev pub response : Name
response = spelled spellings.RESPONSE

abbrev pub connection : Name
connection = spelled spellings.CONNECTION

abbrev pub attributes : Name
attributes = spelled spellings.ATTRIBUTES

abbrev pub bucket_action : Name
bucket_action = spelled spellings.BUCKET_ACTION

abbrev pub bucket_id : Name
bucket_id = spelled spellings.BUCKET_ID

abbrev pub bucket : Name
bucket = spelled spellings.BUCKET

abbrev pub quota_assignment_action : Name
quota_assignment_action = spelled spellings.QUOTA_ASSIGNMENT_ACTION

abbrev pub abandon_action : Name
abandon_action = spelled spellings.ABANDON_ACTION

abbrev pub assignment_time_to_live : Name
assignment_time_to_live = spelled spellings.ASSIGNMENT_TIME_TO_LIVE

abbrev pub rate_limit_strategy : Name
rate_limit_strategy = spelled spellings.RATE_LIMIT_STRATEGY
