-- What a listing means. Assumes nothing.
--     Image    the image, its run, and the answer
--     Text     bytes at the end of a text; a number in decimal
--     Line     the bytes that are printed
pub mod Image
pub mod Text
pub mod Line
